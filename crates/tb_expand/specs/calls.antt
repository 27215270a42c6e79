pub mod Expand
pub mod Scanned
pub mod Expanded
pub mod Splitting
pub mod Forms
pub mod Numbering
pub mod Placing
