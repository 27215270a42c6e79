pub mod Captures
pub mod Sets
pub mod Rows
