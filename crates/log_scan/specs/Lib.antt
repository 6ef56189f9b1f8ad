pub mod Members
pub mod Scan
pub mod Slots
pub mod Walk
