pub mod Public
mod Endings
mod Fronts
mod Wholes
mod Openings
mod Taken
mod Ascending
mod Remaining
