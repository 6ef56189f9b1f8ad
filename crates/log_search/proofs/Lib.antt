pub mod OwnLaws
pub mod SoughtLaws
