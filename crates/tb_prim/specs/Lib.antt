pub mod formers
pub mod Primitives
pub mod Names
pub mod Fixnums
