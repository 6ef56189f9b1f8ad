pub mod Pump
pub mod Events
pub mod Services
pub mod Guarantees
pub mod Stored
