pub mod Config
pub mod Image
pub mod Answers
pub mod Loading
pub mod Written
pub mod Zeros
