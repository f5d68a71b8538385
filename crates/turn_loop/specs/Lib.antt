pub mod Follows
pub mod Promised
pub mod Turning
pub mod Turns
pub mod Outcome
pub mod Stops
