-- What proofs alone speak of: no clause of a public function does.
pub mod DataPlaces
pub mod Exports
pub mod Checking
pub mod Names
pub mod Wrappers
