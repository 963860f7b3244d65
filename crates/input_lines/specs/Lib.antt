pub mod Lines
pub mod Between
pub mod Pinned
pub mod Laws
