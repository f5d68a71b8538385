pub mod Public
pub mod Looks
