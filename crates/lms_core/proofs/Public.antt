-- What other crates may cite.
pub mod Parts
pub mod Rows
pub mod Hashes
pub mod Chains
pub mod Trees
pub mod Forms
pub mod Decided
