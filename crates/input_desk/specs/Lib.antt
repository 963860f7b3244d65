pub mod Table
pub mod Pinned
