pub mod Reads
pub mod Views
pub mod Walks
pub mod Written
pub mod Law
