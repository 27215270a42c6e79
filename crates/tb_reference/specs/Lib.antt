pub mod Locations
pub mod Environments
pub mod Examples
