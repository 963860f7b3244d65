pub mod ByBook
pub mod Asking
pub mod Apart
pub mod Pinned
pub mod Examples
