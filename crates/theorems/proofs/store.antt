-- The abstract store goes along with every history, and every call answers as it says.
-- Laws of the abstract store's definitions: replies, the homes that transactions write, the lengths of batches.
pub mod StoreLaws
-- The abstract store agrees with the world: numbers, promises and book; so where the log stands, and what every call asks first.
pub mod StoreAgrees
-- What begin, reserve, abort, read, confirm, store, commit and flush answer, by the abstract store that agrees with the world.
pub mod ChangeAnswers
-- What settle, trim and an opening answer, by the abstract store that agrees with the world.
pub mod ServiceAnswers
-- What the calls of rounds answer is what the abstract store says, and so for every call of an era.
pub mod CallAnswers
-- The abstract store follows the calls of rounds: its numbers and promises are the strip's after them.
pub mod RoundFollows
-- The abstract store's numbers are the strip's after every done call of an era.
pub mod StoreNumbers
-- The abstract store's promises are the strip's after every done call of an era.
pub mod StorePromises
-- The abstract store goes on agreeing with the world, call by call and crash by crash.
pub mod StoreFollows
-- Every call of every history answers what the abstract store says, and an opening finds what the abstract store says comes back.
pub mod AnswersHold
-- The strip's numbers are the abstract store's.
pub mod StateHolds
-- The worlds that histories under the premises reach, each with the abstract store beside it, and what the claims say of one.
pub mod Reached
-- What the invariant and the abstract store say of a world that a history reaches once an opening is done.
pub mod Moments
