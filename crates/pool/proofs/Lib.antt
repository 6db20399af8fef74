pub mod Exactly
pub mod Examples
