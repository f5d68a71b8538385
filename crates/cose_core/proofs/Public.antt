pub mod Envelopes
pub mod OneKey
