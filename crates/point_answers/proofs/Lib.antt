pub mod Folded
pub mod Failures
pub mod Apart
