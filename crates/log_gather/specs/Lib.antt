pub mod Closers
pub mod Chains
pub mod Walks
