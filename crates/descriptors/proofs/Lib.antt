pub mod Laws
pub mod Grammar
pub mod Entries
pub mod Examples
