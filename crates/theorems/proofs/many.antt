-- Calls on several homes, and what the homes of a unit hold.
-- The book under labels: what its commits wrote to the homes of a unit is what their labels say, for every front of its list.
pub mod UnitBooks
-- The book along a transact: begin, the stores one by one, and the commit that it adds.
pub mod TransactBooks
-- The abstract store along a transact: each of its calls is done.
pub mod StoreMany
-- One call more of a transact, and what it leaves and is told: the world, its records and their bytes.
pub mod ChainCalls
-- A done transact is its begin, stores and commit, one after the other: all of them are done, and they leave the world that it leaves.
pub mod ManyRuns
-- Histories with calls on several homes are histories of the events that they stand for; and what a done fetch or revise gives, in the book's terms.
pub mod ActsHold
-- What a done fetch or revise gives, in the book's terms: what a read of each home gives.
pub mod FetchReads
-- What the calls on several homes are asked, by the abstract store that agrees with the world: all but the batch length of a transact.
pub mod ManyAsked
-- Every act keeps the labels true: as many as there are commits, each saying what its commit wrote.
pub mod UnitSteps
-- The shared lemma: what the homes of a unit hold, for every front of the book's list, and what a done fetch or revise of them gives.
pub mod UnitsHold
-- Every call of a history with acts answers as the abstract store says.
pub mod ActsAnswerHolds
