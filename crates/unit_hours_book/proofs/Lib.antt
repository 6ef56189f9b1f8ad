pub mod BlockLaws
pub mod EventLaws
pub mod ListLaws
pub mod Guaranteed
pub mod StoredHolds
