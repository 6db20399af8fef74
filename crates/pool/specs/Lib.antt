pub mod Tags
pub mod Entries
pub mod Theorems
pub mod Examples
