pub mod Easter
pub mod Holidays
pub mod Working
pub mod Examples
