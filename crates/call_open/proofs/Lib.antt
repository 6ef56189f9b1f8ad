pub mod FormatLaws
pub mod OpenLaws
