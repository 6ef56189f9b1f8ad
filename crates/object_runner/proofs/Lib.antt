-- The actions are the motions.
pub mod AskedLaws
pub mod MovesHold
pub mod GoesOnHolds
-- In every history.
pub mod WaitingLaws
pub mod DueSteps
pub mod CallWrites
pub mod DueHolds
pub mod CarriesHold
pub mod FormatHands
-- Whatever is asked.
pub mod InsideHolds
-- Moments that meet the premises.
pub mod ExampleHolds
-- The code does what the definition says.
pub mod NextLaws
