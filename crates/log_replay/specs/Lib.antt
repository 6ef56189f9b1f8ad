pub mod Best
pub mod Words
pub mod Restore
pub mod Steps
