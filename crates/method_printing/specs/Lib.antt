pub mod Printing
pub mod Theorems
pub mod Examples
