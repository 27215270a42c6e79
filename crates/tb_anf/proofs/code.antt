pub mod Steps
pub mod Views
pub mod Lines
pub mod Forms
pub mod Captures
pub mod Uses
pub mod Procs
pub mod Program
