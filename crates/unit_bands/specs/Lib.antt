pub mod Calls
pub mod Refusals
pub mod Claims
pub mod Histories
pub mod Example
pub mod Answers
