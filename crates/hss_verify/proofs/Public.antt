-- What other crates may cite.
pub mod Decided
pub mod Sizes
