pub mod Links
pub mod Levels
pub mod Public
