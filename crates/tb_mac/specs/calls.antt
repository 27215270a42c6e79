pub mod Windows
pub mod Labels
