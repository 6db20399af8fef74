pub mod Laws
pub mod Exactly
pub mod Drawn
pub mod Faults
pub mod Pool
pub mod Examples
