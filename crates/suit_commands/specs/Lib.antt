pub mod Digests
pub mod Parameters
pub mod Sequences
pub mod Written
pub mod Proper
pub mod Law
