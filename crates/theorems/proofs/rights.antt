-- Who may touch what: the list that is committed, its positions and its sign in the strip.
-- What store and read ask of the list of rights is what the book's committed list says, where the newest positions are true.
pub mod RightsHold
-- The list of rights that a call on several homes finds is that of the book.
pub mod ListRights
-- The state strip has, for the list's four homes, what the newest positions have: only commit, trim and open change either.
pub mod ListedSteps
-- The sign of the list of rights says nothing false of the list as the book has it: a commit that changes a position of the list's homes sets it by the list as it is then, one that changes none leaves the list, an opening sets it by the homes that it brings back, and no other call changes either.
pub mod SignSteps
