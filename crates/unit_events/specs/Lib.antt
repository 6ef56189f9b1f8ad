pub mod Homes
pub mod Promises
pub mod Offered
pub mod Folded
pub mod Guarded
