pub mod PromisesHold
pub mod OfferedLaws
pub mod FoldedHolds
pub mod HomesHold
pub mod GuardedHolds
