pub mod AllowedLaws
pub mod FetchLaws
pub mod QuestionLaws
