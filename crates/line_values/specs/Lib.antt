pub mod Pinned
pub mod OneText
pub mod Between
