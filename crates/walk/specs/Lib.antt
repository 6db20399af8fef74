pub mod Walk
pub mod Nodes
pub mod Theorems
pub mod Promised
pub mod Examples
