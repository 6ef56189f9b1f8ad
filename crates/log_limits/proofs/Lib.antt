pub mod EntryLaws
pub mod WriterLaws
pub mod SpanLaws
pub mod LimitLaws
pub mod OpenLaws
