pub mod PlainTexts
pub mod NextLines
pub mod Handed
