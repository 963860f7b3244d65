pub mod Dues
pub mod SeenOn
