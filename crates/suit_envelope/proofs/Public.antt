pub mod Envelopes
pub mod Plans
