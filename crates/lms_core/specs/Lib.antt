pub mod Parameters
pub mod Bytes
pub mod Digits
pub mod Chains
pub mod OneTime
pub mod Tree
pub mod Lms
pub mod Layout
