pub mod Many
pub mod Units
pub mod Together
pub mod Verdicts
pub mod ManyRefusals
pub mod Replies
pub mod Steps
