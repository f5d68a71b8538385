pub mod Statuses
pub mod Outcome
pub mod Running
pub mod Words
