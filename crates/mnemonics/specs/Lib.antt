pub mod Mnemonics
pub mod Theorems
