pub mod Quiets
pub mod Shown
