pub mod Meters
