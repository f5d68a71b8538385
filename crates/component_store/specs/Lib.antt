pub mod Keeping
pub mod Replacing
pub mod Preparing
pub mod Outcome
pub mod Stores
pub mod StoreLaws
