pub mod Lengths
pub mod Reporting
pub mod UnderWay
pub mod Endings
