pub mod Answers
pub mod Deeds
pub mod Daily
