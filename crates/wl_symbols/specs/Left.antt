-- Lists of import slots to which names bind nothing: which of them are stubs, and which are left to
-- the host.
use Rattle.std.specs.Prelude.{ℕ, ◌&&◌, ◌||◌, Bool, not, List, [], Option, find, position, unwrap_or}
use Rattle.std.specs.List.{filter, list_all}
use Rattle.std.specs.Str.{bytes_eq}
use Rattle.indexmap.specs.IndexSet.{insert_all}
use Rattle.wl_linking.specs.Object.{Object}
use Rattle.wl_symbols.specs.ImportSlots.{ImportSlot, has_symbols, are_symbols_weak}

-- an import that slots are, as clauses see it: its module and its field name, and the object and
-- the number of its first slot
pub record HostImport : Type 0 where
  pub module_ : List ℕ
  pub name : List ℕ
  pub object : ℕ
  pub slot : ℕ

-- ---- slots that are one import

-- the two have the same field name
abbrev pub same_field : ImportSlot → ImportSlot → Bool
same_field a b = bytes_eq a.item.name b.item.name

-- the two have the same module and the same field name
abbrev pub same_import : ImportSlot → ImportSlot → Bool
same_import a b = bytes_eq a.item.origin b.item.origin && bytes_eq a.item.name b.item.name

-- the first of the list that is the same
abbrev pub first_like : (ImportSlot → ImportSlot → Bool) → List ImportSlot → ImportSlot → ImportSlot
first_like same slots t = unwrap_or (find (same t) slots) t

-- ---- stubs

-- a symbol stands for the slot, and all that do are weak
abbrev pub is_weak_slot : List Object → ImportSlot → Bool
is_weak_slot objects t = has_symbols t && are_symbols_weak objects t

-- each of these slots with that field name is such a one
abbrev pub is_stub_name : List Object → List ImportSlot → List ℕ → Bool
is_stub_name objects slots name =
    list_all (λ (t : ImportSlot). not (bytes_eq name t.item.name) || is_weak_slot objects t) slots

-- the slot is a stub's among these: it is such a one, and so is each of them with its field name
abbrev pub is_stub : List Object → List ImportSlot → ImportSlot → Bool
is_stub objects slots t = is_weak_slot objects t && is_stub_name objects slots t.item.name

-- those of these slots that are stubs'
abbrev pub stub_slots : List Object → List ImportSlot → List ImportSlot
stub_slots objects slots = filter (is_stub objects slots) slots

-- the stubs of these slots, one per field name, each by its first slot
abbrev pub stubs : List Object → List ImportSlot → List ImportSlot
stubs objects slots = insert_all same_field [] (stub_slots objects slots)

-- ---- host imports

-- those of these slots that are left to the host
abbrev pub host_slots : List Object → List ImportSlot → List ImportSlot
host_slots objects slots = filter (λ (t : ImportSlot). not (is_stub objects slots t)) slots

-- the imports that these slots are, one per module and field name, each by its first slot
abbrev pub first_imports : List ImportSlot → List ImportSlot
first_imports slots = insert_all same_import [] slots

-- ---- what an import is known by

-- an import by its first slot: its module and field name, and the slot's object and number
abbrev pub first_slot : ImportSlot → HostImport
first_slot t = record {
  module_ = t.item.origin;
  name = t.item.name;
  object = t.object;
  slot = t.number;
}

-- the place of the import of that field name
abbrev pub place_of_name : List ℕ → List HostImport → Option ℕ
place_of_name name imports = position (λ (h : HostImport). bytes_eq name h.name) imports

-- the place of the import of that module and field name
abbrev pub place_of_import : List ℕ → List ℕ → List HostImport → Option ℕ
place_of_import origin name imports =
    position (λ (h : HostImport). bytes_eq origin h.module_ && bytes_eq name h.name) imports
