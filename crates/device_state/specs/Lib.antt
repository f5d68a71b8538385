pub mod State
pub mod Valid
pub mod Heads
pub mod Places
pub mod Sorting
pub mod Law
