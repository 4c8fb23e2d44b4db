pub mod Exports
pub mod Wrappers
pub mod Sources
pub mod Wrapped
pub mod Interface
pub mod Faults
pub mod steps
