pub mod Laws
pub mod Rules
pub mod Joined
pub mod Examples
