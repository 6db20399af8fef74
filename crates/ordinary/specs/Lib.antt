pub mod Ordinary
pub mod Pictures
pub mod Theorems
pub mod Faults
