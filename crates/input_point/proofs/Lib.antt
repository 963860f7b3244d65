pub mod Apart
pub mod Places
pub mod Settled
pub mod DeedsDone
pub mod Stored
pub mod FailedSlots
pub mod DailyRules
