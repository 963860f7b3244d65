pub mod Seen
pub mod Latest
pub mod ByBook
pub mod Asking
pub mod Examples
pub mod Pinned
