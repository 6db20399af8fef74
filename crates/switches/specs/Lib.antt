pub mod Switches
pub mod Entries
pub mod Pictures
pub mod Theorems
pub mod Faults
pub mod Examples
