pub mod Slots
pub mod Own
pub mod Asking
pub mod Apart
pub mod Examples
