pub mod WordEnds
pub mod Saying
pub mod OneLine
pub mod LineTexts
pub mod Examples
