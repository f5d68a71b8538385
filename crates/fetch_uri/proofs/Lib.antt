mod Ports
mod Cuts
pub mod Public
