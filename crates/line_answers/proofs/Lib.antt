pub mod LineTexts
pub mod StatedExamples
pub mod Examples
