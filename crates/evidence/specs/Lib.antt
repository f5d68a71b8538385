pub mod Ids
pub mod Claims
