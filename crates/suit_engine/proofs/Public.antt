pub mod Suspended
