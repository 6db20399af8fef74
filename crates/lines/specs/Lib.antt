pub mod Lines
pub mod Theorems
