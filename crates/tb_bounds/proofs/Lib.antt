pub mod SmallWords
pub mod SmallEffects
pub mod Instructions
pub mod Sizes
pub mod ReferenceSpace
pub mod CodeSpace
pub mod LargerMemory
pub mod FullMemory
