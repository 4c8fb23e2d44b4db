-- Slices that are parts of the bytes that were read, or copies.
use Rattle.std.specs.Prelude.{Bool, true, false}
use Rattle.std.specs.declared.borrow.CowSlice.{CowSlice}
use Rattle.std.specs.declared.borrow.CowSlice.TheVariants.{Borrowed, Owned}

-- the elements are a list of their own, and no part of what was read
abbrev pub is_owned : {X Z : Type 0} → CowSlice X Z → Bool
is_owned (Borrowed slice) = false
is_owned (Owned list) = true
