pub mod Rows
pub mod Changes
pub mod Answers
pub mod Law
