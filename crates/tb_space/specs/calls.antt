pub mod Noting
pub mod Roots
