-- Bytes, tags, the log's header and groups, the homes: laws of specs/Bytes, Tag and Layout.
pub mod ByteLaws
pub mod TagLaws
pub mod TurnLaws
pub mod LayoutLaws
pub mod BlockLaws
pub mod EmptyLaws
