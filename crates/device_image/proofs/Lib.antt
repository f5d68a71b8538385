pub mod Leading
mod States
mod Causes
mod Replaying
mod Loading
