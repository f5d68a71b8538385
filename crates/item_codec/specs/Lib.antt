pub mod Answers
pub mod Part
pub mod Fields
pub mod Ordered
pub mod InOrder
pub mod Wrapped
pub mod Whole
pub mod InBytes
