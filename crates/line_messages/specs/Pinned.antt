-- Readers that `OneLine` pins to the lines: they need not be believed. Definitions only.
pub mod Messages
pub mod Reading
