pub mod Lines
pub mod Writing
pub mod Pinned
pub mod OneLine
pub mod Between
pub mod Examples
