pub mod Ends
pub mod Sized
pub mod Taken
pub mod Served
pub mod Told
pub mod Examples
