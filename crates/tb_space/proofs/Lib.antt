pub mod Marks
pub mod Notings
pub mod Following
pub mod Stacks
pub mod Bits
pub mod Gathered
pub mod Counted
