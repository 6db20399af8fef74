pub mod Standing
pub mod Answers
pub mod Stores
pub mod Pool
