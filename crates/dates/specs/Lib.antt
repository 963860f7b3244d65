pub mod Dates
pub mod Numbers
pub mod OneToOne
pub mod Months
pub mod Examples
pub mod Between
