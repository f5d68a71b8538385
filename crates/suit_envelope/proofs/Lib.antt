mod Each
mod Settled
mod Parting
mod Strange
mod Tells
mod Below
mod Merging
mod Again
mod Back
mod Found
mod Planned
pub mod Public
