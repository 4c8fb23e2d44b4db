-- Slots of one import, one after the other, each with the first of its import.
use Rattle.std.specs.Prelude.{◌≡◌, ℕ, Bool, List, [], ◌∷◌, ◌++◌, map, Option, Some, None, if◌then◌else◌, find, slice_get}
use Rattle.std.specs.Option.{option_or, option_and_then}
use Rattle.wl_linking.specs.Object.{Object}
use Rattle.wl_linking.specs.declared.error.LinkError.{LinkError}
use Rattle.wl_linking.specs.declared.error.LinkError.TheVariants.{ConflictingTypes}
use Rattle.indexmap.specs.IndexSet.{insert_all}
use Rattle.wl_symbols.specs.ImportSlots.{ImportSlot}
use Rattle.wl_symbols.specs.Left.{same_field, same_import, first_imports, first_slot, place_of_name, place_of_import}
use Rattle.wl_bind.specs.Conflicts.{same_slot_type}
use Rattle.wl_bind.specs.declared.conflicts.SlotImports.{SlotImports}
use Rattle.wl_bind.specs.declared.conflicts.SlotImports.TheVariants.{Stubs, Hosts}

-- ---- the imports that slots are

-- two slots are of one import
abbrev pub same_slot : SlotImports → ImportSlot → ImportSlot → Bool
same_slot (Stubs stubs) = same_field
same_slot (Hosts hosts) = same_import

-- the place of the import that the slot is
abbrev pub place_among : SlotImports → ImportSlot → Option ℕ
place_among (Stubs stubs) t = place_of_name t.item.name stubs.now
place_among (Hosts hosts) t = place_of_import t.item.origin t.item.name hosts.now

-- the imports are those of these slots, each by its first slot
abbrev pub AreImportsOf : List ImportSlot → SlotImports → Type 0
AreImportsOf slots (Stubs stubs) = stubs.now ≡ map first_slot (insert_all same_field [] slots)
AreImportsOf slots (Hosts hosts) = hosts.now ≡ map first_slot (first_imports slots)

-- ---- conflicts

-- two slots of one import
pub record SlotPair : Type 0 where
  pub first : ImportSlot
  pub second : ImportSlot

-- the slot of that place, where there is one
abbrev pub slot_at : List ImportSlot → Option ℕ → Option ImportSlot
slot_at slots place = option_and_then (slice_get slots) place

-- the slot with the first of its import, where the two have different types
abbrev pub conflicting : List Object → Option ImportSlot → ImportSlot → Option SlotPair
conflicting objects None t = None
conflicting objects (Some first) t =
    if same_slot_type objects first t then None else Some (record { first = first; second = t })

-- the first slots with one more, where it is the first of its import
abbrev pub with_first : List ImportSlot → Option ImportSlot → ImportSlot → List ImportSlot
with_first firsts None t = firsts ++ t ∷ []
with_first firsts (Some first) t = firsts

-- the first of these slots whose type isn't that of the first of its import, by the first slots
-- that were met before
abbrev pub conflict_from : List Object → (ImportSlot → ImportSlot → Bool)
    → List ImportSlot → List ImportSlot → Option SlotPair
conflict_from objects same firsts [] = None
conflict_from objects same firsts (t ∷ slots) =
    option_or (conflicting objects (find (same t) firsts) t)
    (conflict_from objects same (with_first firsts (find (same t) firsts) t) slots)

-- the refusal of two slots of one import with different types
abbrev pub conflict_of : SlotPair → LinkError
conflict_of p = ConflictingTypes p.first.item.name p.first.object p.first.number
    p.second.object p.second.number
