pub mod Contents
pub mod Calls
pub mod Memory
pub mod Statuses
pub mod Words
pub mod Show
pub mod Showing
