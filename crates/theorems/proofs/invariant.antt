-- What holds at every moment of a history, of memory and of strip and copies, and how it carries over when the log grows, a fence passes or an opening comes.
pub mod Invariant
pub mod SettledLaws
pub mod OpenLaws
pub mod GrowLaws
pub mod GrowImages
pub mod LogStep
pub mod RunLaws
pub mod BookReplay
pub mod ReadBack
pub mod TouchLaws
pub mod LateOpens
pub mod Now
pub mod NowLate
pub mod NowNext
pub mod LiveLog
pub mod NewestBook
