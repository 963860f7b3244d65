pub mod Demand3
pub mod Parts
pub mod Sound
