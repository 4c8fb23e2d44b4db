pub mod Taken
pub mod Faults
pub mod Disallowing
