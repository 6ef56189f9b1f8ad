pub mod Newest
pub mod Shown
