pub mod Outcomes
pub mod Depths
pub mod Texts
pub mod Heads
pub mod Kinds
pub mod Fronts
pub mod Places
pub mod Sizes
