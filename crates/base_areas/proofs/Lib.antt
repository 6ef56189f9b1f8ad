pub mod CopyLaws
pub mod GroupLaws
pub mod HeaderLaws
pub mod LengthLaws
pub mod PieceLaws
pub mod UnusedLaws
