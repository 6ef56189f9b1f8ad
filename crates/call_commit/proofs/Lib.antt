pub mod ClosingLaws
pub mod CommitLaws
