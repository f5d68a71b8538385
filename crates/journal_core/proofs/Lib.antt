mod Unframing
mod Prefixes
mod Fronts
mod Scanned
mod Scan
mod Halves
mod Changes
mod OneList
mod Placed
pub mod Public
