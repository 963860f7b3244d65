pub mod Advanced
pub mod AtPoint
pub mod Failing
pub mod Opens
pub mod Search
pub mod Sweep
pub mod Plain
