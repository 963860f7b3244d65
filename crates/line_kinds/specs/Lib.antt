pub mod Kinds
pub mod Pinned
pub mod Examples
