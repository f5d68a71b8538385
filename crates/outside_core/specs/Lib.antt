pub mod Stream
pub mod Numbers
