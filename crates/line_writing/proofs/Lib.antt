pub mod FieldLoops
pub mod WrittenLines
