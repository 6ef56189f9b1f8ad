-- What a call is lent: batches, the state strip, question 2, the questions and their answers.
pub mod BatchLaws
pub mod StateLaws
pub mod WriterLaws
pub mod PromiseLaws
pub mod ListedLaws
pub mod SignLaws
pub mod RightLaws
pub mod OrderLaws
pub mod QuestionLaws
pub mod NewestLaws
pub mod LoggingLaws
