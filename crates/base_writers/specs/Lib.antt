pub mod Held
pub mod Frame
