pub mod Live
pub mod Examples
pub mod calls
