pub mod Signed
pub mod Checks
pub mod Pictures
pub mod Theorems
pub mod Faults
