pub mod Asked
pub mod Compiling
pub mod Preparing
pub mod Running
