pub mod Exactly
pub mod Faults
