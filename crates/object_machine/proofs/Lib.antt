pub mod ControlLaws
pub mod TurnLaws
pub mod ClaimsHold
pub mod ExampleHolds
