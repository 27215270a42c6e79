pub mod Passes
pub mod Compilable
