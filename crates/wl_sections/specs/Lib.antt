pub mod Outcomes
pub mod OutputSections
pub mod BuiltIn
pub mod Segments
