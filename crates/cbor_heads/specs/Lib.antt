pub mod Place
pub mod Reading
pub mod Head
pub mod HeadReading
pub mod Printing
