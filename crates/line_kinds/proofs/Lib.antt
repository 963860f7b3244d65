pub mod Naming
pub mod KindTable
pub mod Examples
