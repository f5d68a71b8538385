pub mod OneAnchors
pub mod Signers
pub mod Blocks
pub mod Written
