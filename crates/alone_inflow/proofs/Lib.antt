pub mod IntegerLaws
pub mod InflowLaws
pub mod CallLaws
pub mod Guaranteed
