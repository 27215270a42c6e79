pub mod Views
pub mod Index
pub mod Joined
pub mod Parts
pub mod Longest
