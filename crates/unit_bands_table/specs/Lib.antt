pub mod Rows
pub mod Judge
pub mod Packed
pub mod Sweep
pub mod Guarantees
pub mod Stored
