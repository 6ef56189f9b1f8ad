pub mod RefusalsHold
pub mod CallLaws
pub mod Claimed
pub mod BookHolds
pub mod ExampleHolds
pub mod AnswersHold
