pub mod Homes
pub mod Notes
pub mod Operations
pub mod Generate
pub mod PlainCode
pub mod Fits
pub mod Examples
