-- What passes between functions of the code only.
pub mod Parts
