pub mod OrderLaws
pub mod OneLaws
pub mod CallLaws
pub mod StepLaws
