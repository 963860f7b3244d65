-- Readers that a theorem pins to the texts: they need not be believed. Definitions only.
pub mod Naming
