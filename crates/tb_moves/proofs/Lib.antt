pub mod Lists
pub mod Numbers
pub mod Progress
pub mod Run
pub mod Values
