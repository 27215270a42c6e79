pub mod Words
pub mod Lists
pub mod Inputs
pub mod StepLaws
pub mod StepRules
pub mod Uses
pub mod RunLaws
pub mod Layouts
