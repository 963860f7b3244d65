pub mod EasterTable
pub mod FixedTable
pub mod Counting
pub mod Examples
