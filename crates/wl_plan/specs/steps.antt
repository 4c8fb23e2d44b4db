-- What proofs alone speak of: no clause of a public function does.
pub mod Functions
pub mod Imports
pub mod Table
pub mod Bindings
pub mod Globals
pub mod Positions
pub mod Fixups
pub mod Sizes
pub mod Outline
pub mod Plan
pub mod Threads
pub mod Parsing
pub mod Link
