pub mod FaultCounts
pub mod Files
