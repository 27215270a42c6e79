pub mod Reports
pub mod calls
