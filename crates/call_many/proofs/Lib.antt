pub mod StepLaws
pub mod StoredLaws
pub mod TransactLaws
