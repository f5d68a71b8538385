pub mod Each
pub mod Wrapper
pub mod Manifests
pub mod Envelopes
pub mod Plans
pub mod Written
pub mod Proper
pub mod Law
