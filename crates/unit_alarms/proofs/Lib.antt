pub mod RefusalsHold
pub mod CallLaws
pub mod Claimed
pub mod AlarmsHold
pub mod ExampleHolds
pub mod FewHomes
pub mod AnswersHold
