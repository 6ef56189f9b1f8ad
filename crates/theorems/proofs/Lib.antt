-- The theorems over all histories, in reading order, a folder for each layer.

-- What holds at every moment of a history, of memory and of strip and copies, and how it carries over when the log grows, a fence passes or an opening comes.
pub mod invariant
-- Each call and each crash keeps the invariant.
pub mod steps
-- The refusals, and demands 2 and 3.
pub mod demands
-- The abstract store goes along with every history, and every call answers as it says.
pub mod store
-- The newest positions are those of the book.
pub mod newest
-- Who may touch what: the list that is committed, its positions and its sign in the strip.
pub mod rights
-- Calls on several homes, and what the homes of a unit hold.
pub mod many
-- Places of the log: live, dead, free; what usage tells.
pub mod places
-- Reserved places.
pub mod reserved
-- Settling in small steps.
pub mod rounds
-- What a writer may not read it cannot tell apart.
pub mod isolation
-- Facts stated in passing, and a history that meets the premises.
pub mod facts
