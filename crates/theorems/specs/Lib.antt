pub mod Isolation
pub mod IsolatedActs
pub mod Hidden
pub mod HiddenTogether
pub mod FirstOpening
pub mod StateNumbers
pub mod Lent
pub mod ActsAnswer
