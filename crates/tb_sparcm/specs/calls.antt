pub mod Quiet
pub mod Cells
