pub mod KeepLaws
pub mod PositionLaws
pub mod NearLaws
