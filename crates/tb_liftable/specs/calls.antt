pub mod Given
pub mod Reached
pub mod Place
pub mod Uses
