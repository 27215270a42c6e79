pub mod Bits
pub mod Bodies
pub mod Homes
pub mod Items
pub mod Entries
pub mod Programs
