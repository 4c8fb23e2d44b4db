pub mod FirstLaws
pub mod SameLaws
