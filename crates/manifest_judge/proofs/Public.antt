pub mod Candidates
pub mod Judged
