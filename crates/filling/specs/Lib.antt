pub mod Filling
pub mod Theorems
pub mod Examples
