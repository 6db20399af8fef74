pub mod Pinned
