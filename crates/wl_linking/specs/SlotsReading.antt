-- How the names of imports are gathered and compared, one import and one symbol after the other.
use Rattle.std.specs.Prelude.{◌≡◌, ◌≤◌, ℕ, ◌+◌, Bool, true, if◌then◌else◌, List, [], ◌∷◌, length, Option, Some, None, slice_get, slice_set}
use Rattle.wl_bytes.specs.declared.reader.TheConstants.{MAX_LEN}
use Rattle.std.specs.Str.{bytes_eq}
use Rattle.wl_module.specs.declared.imports.ExternalKind.{ExternalKind}
use Rattle.wl_module.specs.Imports.{PlacedImported}
use Rattle.wl_linking.specs.Spaces.{is_of_kind}
use Rattle.wl_linking.specs.Slots.{Slot, slot_of}
use Rattle.wl_custom.specs.Symbols.{Symbol}

-- ---- imports

-- the field name of one import, if it is of that kind
abbrev pub slots_from : ExternalKind → ℕ → PlacedImported → List Slot
slots_from kind base i = if is_of_kind kind i.import.entity then slot_of base i ∷ [] else []

-- the field name stands within the limit
abbrev pub IsNamedWithin : PlacedImported → Type 0
IsNamedWithin i = i.name_offset + length i.import.name ≤ MAX_LEN

-- ---- symbols

-- what stands at one range of the bytes is one name
abbrev pub AreNamedByRange : List Symbol → Type 0
AreNamedByRange symbols =
    (i j : ℕ) (s t : Symbol) → slice_get symbols i ≡ Some s → slice_get symbols j ≡ Some t
    → s.name_range ≡ t.name_range → s.name ≡ t.name

-- a known name is that of a symbol where it stands at the same range
abbrev pub IsNamedByRange : Option Slot → Symbol → Type 0
IsNamedByRange known s =
    (slot : Slot) → known ≡ Some slot → slot.range ≡ s.name_range → slot.name ≡ s.name

-- no name is known, or that of a symbol
abbrev pub is_name_of : Option Slot → Symbol → Bool
is_name_of None s = true
is_name_of (Some slot) s = bytes_eq slot.name s.name

-- the name of a symbol, with its range
abbrev pub named_as : Symbol → Slot
named_as s = record { name = s.name; range = s.name_range }

-- The name of a symbol is taken down for its import, and whether it is the one that was known
-- before. There may be no such import, and then nothing is given.
pub record Agrees (before after : List (Option Slot)) (s : Symbol) (answer : Bool) : Type 0 where
  pub there : (known : Option Slot) → slice_get before s.index ≡ Some known
      → (after ≡ slice_set before s.index (Some (named_as s))) × (answer ≡ is_name_of known s)
  pub beyond : slice_get before s.index ≡ None → (after ≡ before) × (answer ≡ true)
