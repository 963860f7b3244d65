pub mod Given
pub mod Slots
pub mod Fairness
pub mod Newest
pub mod Readings
