pub mod Addresses
pub mod Causes
pub mod Resolving
