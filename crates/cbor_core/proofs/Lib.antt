pub mod Public
mod Written
mod Depth
mod Items
mod Again
mod Inputs
mod Faults
mod Refused
mod Tables
