-- Laws of what a line does.
pub mod CallLaws
