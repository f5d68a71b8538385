pub mod Params
pub mod Secrets
pub mod Trees
pub mod Sign
pub mod Kept
