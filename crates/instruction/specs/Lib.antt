pub mod Steps
pub mod Names
pub mod Pictures
pub mod Entries
pub mod Theorems
pub mod Faults
pub mod Examples
pub mod Drawn
