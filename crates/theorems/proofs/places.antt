-- Places of the log: live, dead, free; what usage tells.
-- Laws of the ledger of places (specs/Places) and of the book's entries by position.
pub mod PlaceLedgerLaws
-- The ledger of places agrees with the book, and goes on agreeing with it call by call.
pub mod PlaceLedgerSteps
-- Every event keeps the ledger of places in step with the book.
pub mod PlacesFollow
-- A log with no open transaction and no round under way drains.
pub mod LogDrains
-- Places are accounted for at every moment, and a log with no open transaction drains.
pub mod PlacesHold
-- Live places, one by one: by the ledger, by the book and by the trace; and the writer that holds a log back, by the strip.
pub mod UsageLaws
-- At every moment after a done opening the numbers of usage are the ledger's, and its holder is the open transaction that lies lowest.
pub mod UsageHolds
