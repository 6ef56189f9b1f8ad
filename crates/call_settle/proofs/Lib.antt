pub mod RoundLaws
pub mod SettleLaws
