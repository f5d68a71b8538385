pub mod Public
mod Each
mod Ids
mod Order
