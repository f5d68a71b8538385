pub mod Frames
pub mod Unframed
pub mod Place
pub mod Region
pub mod Kept
pub mod Outcome
pub mod Scanning
pub mod Laws
