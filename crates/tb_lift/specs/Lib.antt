pub mod Lift
pub mod Examples
