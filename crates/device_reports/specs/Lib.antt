pub mod Looking
pub mod Images
pub mod Lines
pub mod Listing
pub mod Audit
pub mod Law
