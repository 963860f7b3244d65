pub mod ByBook
pub mod Pinned
pub mod Examples
