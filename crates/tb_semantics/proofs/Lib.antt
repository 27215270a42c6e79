pub mod RunLaws
pub mod SameEnd
pub mod KeepsLemmas
pub mod Simulation
pub mod Reachable
pub mod ListLemmas
pub mod Worlds
