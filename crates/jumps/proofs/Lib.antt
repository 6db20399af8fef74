pub mod Laws
pub mod First
pub mod Exactly
pub mod Examples
