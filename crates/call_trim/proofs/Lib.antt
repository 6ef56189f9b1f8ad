pub mod TrimmingLaws
