pub mod Codes
pub mod Own
pub mod Sought
