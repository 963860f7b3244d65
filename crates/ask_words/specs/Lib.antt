pub mod Asked
pub mod Between
pub mod Examples
