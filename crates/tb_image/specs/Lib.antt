pub mod Format
pub mod Numbers
pub mod Objects
pub mod Instructions
pub mod Images
pub mod FormatLaws
pub mod Examples
