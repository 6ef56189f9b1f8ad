pub mod Readings
pub mod Kind
pub mod Report
pub mod Compare
pub mod Merge
pub mod Guarantees
