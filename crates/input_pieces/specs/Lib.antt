pub mod Pinned
pub mod Between
