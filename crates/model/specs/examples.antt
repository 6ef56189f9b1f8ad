-- Histories with what each call answers, computed in proofs/examples.
-- A history line by line: each call with what it answers.
pub mod Lines
-- The paper's marked trials.
pub mod Trials
-- Every call of document 01, in a history that meets the premises.
pub mod Witnesses
-- Reserved places; answers 17 and 18.
pub mod Reservations
-- Torn groups, and a cut inside blanking.
pub mod Tears
-- Newest positions.
pub mod Positions
-- Lists of rights; answers 19 and 20.
pub mod Guarded
-- Settling in small steps; answer 21.
pub mod TwoRounds
-- Which writes persist at a crash.
pub mod Landings
-- Which commits are owed.
pub mod Owed
-- Questions 2 and 3 clause by clause.
pub mod Disorder
-- Two questions that fail at once.
pub mod Precedence
-- Records in order, every ring slot after an opening, numbers after a trim, a predecessor lost.
pub mod Orders
-- All ranges of a list; a list that an opening brings back.
pub mod Lists
