pub mod Reading
pub mod Picture
pub mod Theorems
pub mod Examples
