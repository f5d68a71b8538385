pub mod Printing
pub mod First
pub mod Anchors
pub mod Verified
pub mod Blocks
pub mod Law
