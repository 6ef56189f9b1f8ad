pub mod Board
pub mod Example
