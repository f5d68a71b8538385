mod Lists
mod Making
mod Opening
mod Running
mod Parts
mod Fields
mod Hashes
mod Rows
mod Passing
mod Alone
mod Deciding
mod Verdicts
pub mod Public
