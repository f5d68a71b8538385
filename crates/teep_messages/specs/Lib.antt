pub mod Forms
pub mod Options
pub mod Messages
pub mod Written
pub mod Proper
pub mod Law
