pub mod NormalForm
pub mod Wider
pub mod Constants
pub mod Examples
pub mod Worked
pub mod calls
