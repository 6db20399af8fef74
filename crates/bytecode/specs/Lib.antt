pub mod Decoding
pub mod Rows
pub mod Theorems
pub mod Examples
