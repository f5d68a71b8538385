mod Fields
mod Order
mod Alternatives
mod Arguments
mod Members
mod Levels
mod Loops
mod Steps
pub mod Public
