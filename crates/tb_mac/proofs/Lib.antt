pub mod RuleLaws
pub mod LabelLemmas
pub mod AssembleLemmas
pub mod BoundLaws
pub mod FrameLaws
pub mod FramedRunLaws
pub mod EventLaws
pub mod Immediates
