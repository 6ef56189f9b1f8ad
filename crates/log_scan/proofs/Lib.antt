pub mod GroupLaws
pub mod DecideLaws
pub mod MemberPass
pub mod PassLaws
pub mod ScanLaws
pub mod SlotLaws
pub mod VisitLaws
