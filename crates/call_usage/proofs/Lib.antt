pub mod SumLaws
pub mod UsageLaws
