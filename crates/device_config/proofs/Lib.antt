pub mod Readers
pub mod Sizes
pub mod Heads
pub mod Writers
pub mod Images
