pub mod Meanings
pub mod Lines
pub mod Examples
pub mod Escapes
pub mod Theorems
