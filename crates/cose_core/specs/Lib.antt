pub mod Faults
pub mod Headers
pub mod Signed
pub mod Sign1
pub mod Reading
pub mod Borrowed
pub mod Key
pub mod Law
