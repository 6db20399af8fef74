pub mod Names
pub mod Rules
pub mod Theorems
pub mod Examples
