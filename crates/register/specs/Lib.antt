pub mod Between
pub mod Pinned
