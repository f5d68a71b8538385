pub mod Public
pub mod Answering
pub mod Looping
pub mod Caused
pub mod Exactly
mod Following
mod Begun
mod Cutting
mod Looked
