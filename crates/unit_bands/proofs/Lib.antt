pub mod RefusalsHold
pub mod CallLaws
pub mod Claimed
pub mod TableHolds
pub mod ExampleHolds
pub mod AnswersHold
