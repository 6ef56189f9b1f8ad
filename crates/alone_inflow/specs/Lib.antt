pub mod Inflow
pub mod Guarantees
