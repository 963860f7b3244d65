pub mod Ascii
pub mod Decimal
pub mod Days
pub mod Longest
pub mod Between
