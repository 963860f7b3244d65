pub mod Points
pub mod Filled
