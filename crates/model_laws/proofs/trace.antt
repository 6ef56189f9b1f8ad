-- Which writes persist at a crash; what has been logged, as a ghost history; what the commit rule finds in what persisted: the longest prefix of its commits.
pub mod CrashLaws
pub mod SubmitLaws
pub mod HomeLaws
pub mod OpeningLaws
pub mod FateLaws
pub mod MixLaws
pub mod Trace
pub mod WalkLaws
pub mod TraceLaws
pub mod WholeLaws
pub mod LinkLaws
pub mod CountLaws
pub mod ReplayLaws
pub mod RestoreLaws
pub mod Survivors
