pub mod CallLaws
pub mod LogLaws
pub mod ReadyLaws
pub mod StoreLaws
