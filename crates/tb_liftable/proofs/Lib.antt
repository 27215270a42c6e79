pub mod Bindings
pub mod Orders
pub mod Reaching
pub mod Rows
pub mod Settling
pub mod Chosen
pub mod UseLemmas
