pub mod Question
pub mod Walk
pub mod Between
pub mod Examples
