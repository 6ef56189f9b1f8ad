pub mod BestLaws
pub mod NewestLaws
pub mod PlaceLaws
pub mod RestoreLaws
pub mod StepLaws
