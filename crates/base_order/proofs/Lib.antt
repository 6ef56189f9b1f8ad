pub mod OrderTests
pub mod ModeLaws
pub mod RecordLaws
pub mod AskedLaws
