pub mod FieldTexts
pub mod FieldSteps
pub mod KnownDates
pub mod Handed
pub mod KnownStays
pub mod FieldsRead
