-- The newest positions are those of the book.
-- The newest positions are those that the book gives, after a done opening and every call that follows.
pub mod NewestFollows
-- What a home shows by the newest positions, where these are those of the book.
pub mod NewestShown
-- The newest positions are true at every moment after a done opening, and a read, which uses them, gives what it gave while it searched the log.
pub mod NewestHolds
