-- The refusals, and demands 2 and 3.
-- A refused call leaves everything that it was lent as it was, field by field, and its number is one of those that refuse.
pub mod RefusalsHold
-- Demand 3, whole: for every G and D, every list of calls and crashes under the premises.
pub mod DemandThree
-- Between two calls of an era: the strip is in order, what the calls wrote reads back as the book's commits that are not trimmed, and a read gives the writer's own newest block, else the newest committed one.
pub mod LiveHolds
-- What a done trim yields in the book's terms: the largest start at which no transaction of the book lies on both sides.
pub mod TrimYields
-- What a done settle and a done confirm yield in the book's terms, and the strip that every call of an era finds in order.
pub mod Yields
-- What every done call of a history yields.
pub mod YieldsAll
-- Demand 2, whole: at every moment of every history under the premises what the calls write reads back as the book has it, and every done call yields what the book says.
pub mod DemandTwo
