pub mod Next
pub mod Inside
pub mod Moves
pub mod Always
pub mod Carries
pub mod Example
