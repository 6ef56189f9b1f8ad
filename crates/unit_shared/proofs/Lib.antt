pub mod RefusalsHold
pub mod UnitLaws
pub mod ShownLaws
pub mod MomentLaws
pub mod MomentShown
pub mod RepliesHold
