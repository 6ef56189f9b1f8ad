-- What the definitions come to: places counted by the ledger and by usage, computed.
pub mod CountedHolds
-- Counts of positions: every position belongs to at most one transaction of a trace.
pub mod PlaceCounts
-- Replies: what an outcome tells.
pub mod ReplyLaws
