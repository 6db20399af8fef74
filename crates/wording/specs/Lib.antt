pub mod Names
pub mod Operands
