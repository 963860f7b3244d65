pub mod Fields
pub mod Pinned
pub mod Between
