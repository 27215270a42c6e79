pub mod States
pub mod Loaded
pub mod Steps
pub mod RunDoes
pub mod LoadDoes
pub mod calls
