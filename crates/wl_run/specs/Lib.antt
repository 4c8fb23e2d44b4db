pub mod Sites
pub mod Filled
pub mod Data
pub mod Values
pub mod Tables
pub mod Turns
pub mod Lines
