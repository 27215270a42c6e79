pub mod Steps
pub mod Lines
pub mod Captures
pub mod Procs
