pub mod Unit
pub mod Refusals
pub mod Shown
pub mod Moments
pub mod Replies
