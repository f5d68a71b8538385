pub mod Frames
pub mod Reading
pub mod Filling
pub mod Nexts
