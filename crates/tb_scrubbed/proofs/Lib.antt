pub mod Alike
pub mod Scrubbing
pub mod Facts
pub mod Changing
pub mod Stepping
pub mod Operations
pub mod Entering
pub mod Lockstep
