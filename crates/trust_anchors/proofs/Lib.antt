pub mod Lists
pub mod Keys
pub mod Readers
pub mod Searches
pub mod BlockSearches
pub mod There
pub mod Public
