-- What a writer may not read it cannot tell apart.
-- Books that are alike but for bytes in hidden homes: the calls keep them so, and a home that is not hidden shows the same.
pub mod AlikeBook
-- Stores that are alike but for bytes in hidden homes answer every call alike: the answers hang on numbers, on homes and on the list of rights, and the list's own homes are never hidden.
pub mod AlikeReplies
-- Stores that are alike but for bytes in hidden homes stay so over calls that are alike and answered alike.
pub mod AlikeFollows
-- Two histories whose calls are alike, from stores that are alike but for bytes in homes that a writer may not read: every call is answered the same, and the writer's reads give the same blocks.
-- For all worlds that are faithful to their abstract stores, and then for those that a history has reached.
pub mod AlikeFaithful
pub mod AlikeHistories
-- Calls on several homes that are alike, from stores that are alike but for bytes in hidden homes: they answer the same, and leave stores alike.
pub mod AlikeActs
-- Rights keep what a writer may not read from it: from the answers of the abstract store, demand 2 and the invariant, by which the blocks of all commits have 64 bytes.
pub mod IsolationHolds
-- The same in histories with calls on several homes, and from the format on.
pub mod IsolatedActsHold
-- What rights hide from one writer and show to another, by computation.
pub mod HiddenHolds
-- The two histories of specs/Hidden meet the premises of non-interference, which therefore says something of them.
pub mod HiddenThere
-- The two histories of specs/HiddenTogether are told so, and meet the premises of non-interference from the format on.
pub mod TogetherHidden
