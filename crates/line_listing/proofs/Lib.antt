pub mod Growing
pub mod Rising
pub mod Pieces
pub mod ByBook
pub mod Examples
