pub mod Stands
pub mod Held
pub mod Law
pub mod Replay
