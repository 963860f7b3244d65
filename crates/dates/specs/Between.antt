-- What passes between crates of the code only.
pub mod Years
