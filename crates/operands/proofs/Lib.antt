pub mod Parts
pub mod Laws
pub mod Exactly
pub mod Signed
pub mod Standing
pub mod Faults
