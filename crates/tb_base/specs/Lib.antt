pub mod Calls
pub mod FaultNames
pub mod Memory
pub mod Outside
pub mod Real
