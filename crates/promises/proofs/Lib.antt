pub mod Settled
pub mod Pinned
pub mod Asked
