pub mod Identifier
pub mod Theorems
pub mod Examples
