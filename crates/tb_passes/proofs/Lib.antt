pub mod Limits
pub mod Parts
pub mod Fitting
pub mod FramedSteps
pub mod AtTheEnd
