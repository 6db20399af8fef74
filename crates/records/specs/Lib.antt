pub mod Records
pub mod Theorems
