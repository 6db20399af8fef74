pub mod Lookup
pub mod Theorems
pub mod Examples
