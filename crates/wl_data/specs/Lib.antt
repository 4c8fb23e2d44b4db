pub mod Segments
pub mod Spans
pub mod Sizes
pub mod Layouts
pub mod Stack
pub mod MemorySize
pub mod DataPlaces
