-- Definitions that only pass between crates. Definitions only.
pub mod Shapes
pub mod Known
pub mod With
pub mod KnownStays
