pub mod Spelling
pub mod Fixed
pub mod DayTexts
pub mod Appends
pub mod Within
pub mod DigitSteps
