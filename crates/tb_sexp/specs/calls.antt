pub mod Scanning
pub mod Lexing
pub mod Tails
pub mod Frames
pub mod Reading
pub mod Runs
pub mod Reached
