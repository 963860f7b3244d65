pub mod Feeds
pub mod KeptBytes
pub mod Runs
pub mod LineLaws
