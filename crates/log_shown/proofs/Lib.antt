pub mod PlainLaws
pub mod ThereLaws
