pub mod Everies
pub mod Scopes
pub mod Named
pub mod Operations
pub mod NamedSteps
pub mod NamedLemmas
