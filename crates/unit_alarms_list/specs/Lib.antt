pub mod Alarm
pub mod OpenAlarms
pub mod Events
pub mod Guarantees
pub mod Stored
