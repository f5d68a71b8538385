pub mod Joined
pub mod Grown
pub mod Valid
pub mod Keys
