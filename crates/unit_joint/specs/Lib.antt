pub mod Joint
pub mod Kept
pub mod Isolated
pub mod Example
pub mod HiddenUnits
pub mod FewHomes
