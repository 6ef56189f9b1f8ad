pub mod FormatLaws
pub mod RecordLaws
pub mod HomeLaws
