pub mod Texts
pub mod Grammar
pub mod Theorems
pub mod Examples
