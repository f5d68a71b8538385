pub mod Digests
pub mod Sequences
