pub mod Chaining
pub mod Counts
pub mod Ranges
pub mod Gating
