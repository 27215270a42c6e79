pub mod Mentions
pub mod Procedures
pub mod Added
pub mod Liftable
pub mod Examples
pub mod calls
