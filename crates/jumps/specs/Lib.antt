pub mod Jumps
pub mod Answers
pub mod Stored
pub mod Landing
pub mod Theorems
pub mod Examples
