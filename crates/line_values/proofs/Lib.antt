pub mod Numbers
pub mod Fixed
pub mod Days
pub mod OneText
pub mod Places
pub mod Steps
