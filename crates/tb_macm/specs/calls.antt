pub mod Quiet
pub mod Loads
