-- What some stores in a row leave, how many bytes a transact writes, and its ticket.
pub mod StoredLaws
pub mod TransactedLaws
-- What these calls answer, in the abstract store's terms.
pub mod RepliesHold
-- What the definitions come to: histories with calls on several homes, computed.
pub mod TogetherHolds
-- What these calls answer, question by question, computed.
pub mod AnswersHold
-- What an answer of 0 says of a call on several homes.
pub mod ManyLaws
