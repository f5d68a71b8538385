mod Lists
mod Parts
mod Tries
mod Finding
mod Stays
mod Suspending
mod Goings
mod Levels
mod Engines
mod Whole
pub mod Public
