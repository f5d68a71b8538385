pub mod Envelope
pub mod Parts
pub mod Question
pub mod Saying
pub mod Signing
