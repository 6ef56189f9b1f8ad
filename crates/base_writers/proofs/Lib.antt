pub mod HeldLaws
pub mod FrameLaws
