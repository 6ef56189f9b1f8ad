pub mod ChainLaws
pub mod CloserLaws
pub mod EndLaws
pub mod TableLaws
pub mod WalkLaws
pub mod WalkSteps
pub mod WordVisits
