pub mod Computes
pub mod Scenes
pub mod DatesOn
pub mod Examples
pub mod RowExamples
pub mod Accept
pub mod Meters
pub mod Views
