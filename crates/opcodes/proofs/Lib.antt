pub mod Table
pub mod Arithmetic
