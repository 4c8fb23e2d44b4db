-- What proofs alone speak of: no clause of a public function does.
pub mod Placing
