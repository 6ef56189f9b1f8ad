-- The commit rule in the forms that the code's loops take: by the last closing entry, by counts, by newest entries.
pub mod Closings
pub mod ClosingLaws
pub mod MemberLaws
