pub mod Openings
pub mod Tabled
