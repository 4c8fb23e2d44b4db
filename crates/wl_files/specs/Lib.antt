pub mod Causes
pub mod Files
pub mod Sink
pub mod Reading
pub mod Unread
pub mod Held
pub mod MemFiles
pub mod MemSink
