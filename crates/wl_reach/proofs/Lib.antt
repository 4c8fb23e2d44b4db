pub mod GraphLaws
pub mod MarkLaws
pub mod RankLaws
pub mod ChainLaws
pub mod SearchLaws
pub mod StepLaws
