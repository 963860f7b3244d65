pub mod Lines
pub mod Between
pub mod Examples
