pub mod Again
pub mod Written
pub mod Sizes
pub mod Readers
