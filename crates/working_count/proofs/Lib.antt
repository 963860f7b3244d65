mod Masks
mod Parts
pub mod Counting
pub mod Walk
pub mod Examples
