pub mod Spelled
pub mod Puts
pub mod Fields
pub mod Forms
pub mod Placed
pub mod Values
pub mod Lengths
