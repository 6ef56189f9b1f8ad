pub mod Store
pub mod Places
pub mod Usage
pub mod Counted
pub mod Rounds
pub mod RoundEnds
