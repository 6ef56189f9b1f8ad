pub mod EntryLaws
pub mod PlaceLaws
pub mod RightsLaws
pub mod KeepLaws
