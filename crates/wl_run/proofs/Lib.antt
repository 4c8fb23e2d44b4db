pub mod FillLaws
pub mod ValueLaws
pub mod SizeLaws
