-- Definitions that a theorem pins: they need not be believed. Definitions only.
pub mod Lines
pub mod Runs
pub mod Machine
