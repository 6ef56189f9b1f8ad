-- What the definitions come to, by computation: the longer tables of crates/model/specs/examples, every row. The shorter ones, and as many rows of these as the
-- edits of `model` need to be refused, are computed in `model` itself (proofs/examples), where they are tried.
pub mod FormatHolds
pub mod TrialsHold
pub mod HistoryHolds
pub mod TearsHold
pub mod GuardedHolds
pub mod OrdersHold
pub mod ListsHold
