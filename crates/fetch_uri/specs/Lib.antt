pub mod Address
pub mod Parts
pub mod Tests
