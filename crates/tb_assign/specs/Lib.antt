pub mod Eliminate
pub mod Examples
pub mod calls
pub mod Constants
