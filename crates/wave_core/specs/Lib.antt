pub mod Ledger
pub mod Waves
pub mod Book
pub mod Counting
pub mod Law
