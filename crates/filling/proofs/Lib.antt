pub mod Laws
pub mod Entries
pub mod Decoded
pub mod Examples
