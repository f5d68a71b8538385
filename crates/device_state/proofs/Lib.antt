pub mod Putting
pub mod Doubles
pub mod Sinking
pub mod Strings
pub mod Weights
pub mod Leaves
pub mod Orders
