pub mod Bits
mod Walk
pub mod YearLaw
mod Table
pub mod Laws
mod Total
pub mod Examples
