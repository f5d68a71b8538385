pub mod Spelling
pub mod Reading
pub mod Table
pub mod Faulty
pub mod Law
pub mod Writing
pub mod Views
