-- Reserved places.
-- What the strip has for each writer is what it was granted, by the calls and answers, less the entries that it has logged since: every event of a history keeps that.
pub mod PromiseLedger
-- Places promised beforehand (specs/Reserved), for every history.
pub mod ReservedHolds
