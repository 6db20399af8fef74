pub mod Any
pub mod Accepted
pub mod Stores
pub mod Promised
pub mod Examples
