pub mod Span
pub mod Ending
pub mod Opening
pub mod Parts
pub mod Fields
