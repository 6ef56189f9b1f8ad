pub mod MarkedLaws
pub mod WordLaws
pub mod MapLaws
