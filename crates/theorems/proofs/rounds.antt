-- Settling in small steps.
-- A step that leaves homes leaves k fewer.
pub mod RoundCounts
-- No call between a round's steps makes more homes remain.
pub mod RoundSteps
-- A done call between a round's steps leaves the round and its cursor, and no more homes.
pub mod RoundStays
-- Rounds, for every history: the data copy home by home at every moment, and what raises the settled position.
pub mod RoundsHold
-- A round takes at most as many steps as its homes need, and ends in the data copy of one settle at its beginning.
pub mod RoundEnds
