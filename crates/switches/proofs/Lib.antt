pub mod Laws
pub mod Counts
pub mod Exactly
pub mod Faults
pub mod Examples
