pub mod Exact
pub mod SymbolLaws
pub mod InfoLaws
pub mod FeatureLaws
pub mod LinkingLaws
pub mod RelocationLaws
