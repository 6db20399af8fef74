pub mod Wrote
pub mod Texts
pub mod Numbers
pub mod Theorems
