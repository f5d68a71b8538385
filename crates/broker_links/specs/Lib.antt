pub mod Traffic
pub mod Marks
pub mod Dials
pub mod Children
pub mod Dialing
pub mod Spawning
pub mod DialLaws
pub mod ChildLaws
