pub mod Capped
pub mod Turns
pub mod Within
pub mod Leaves
