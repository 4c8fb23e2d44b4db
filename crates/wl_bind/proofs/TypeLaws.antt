-- The types of slots, by rows.
use Rattle.std.proofs.Common.{◌≡◌, ℕ, zero, suc, ◌+◌, List, [], ◌∷◌, refl, inl, inr, slice_get}
use Rattle.std.specs.Option.{option_and_then}
use Rattle.std.proofs.lemmas.Option.{slice_get-map}
use Rattle.wl_module.specs.Imports.{Imported}
use Rattle.wl_module.specs.declared.imports.ImportEntity.{ImportEntity}
use Rattle.wl_module.specs.declared.imports.ImportEntity.TheVariants as entity
use Rattle.wl_linking.specs.Object.{Object}
use Rattle.wl_custom.specs.Symbols.{Symbol}
use Rattle.wl_custom.specs.declared.symbols.WasmSymbolKind.TheVariants.{Func}
use Rattle.wl_symbols.specs.ImportSlots.{ImportSlot, slot_imports, numbered_slots, import_slots}
use Rattle.wl_bind.specs.FunctionTypes.{type_in, type_number, slot_type}
use Rattle.wl_bind.specs.BindingSteps.{numbers_in, slot_numbers, number_at}
use Rattle.wl_lists.proofs.Found.{cases_option}

-- the types of these slots, by the numbers of the types of imports
in_row : (objects : List Object) (i : ℕ) (symbols : List Symbol) (n : ℕ) (imports : List Imported) (k : ℕ)
    → option_and_then (slot_type objects) (slice_get (numbered_slots i Func symbols n (slot_imports Func imports)) k) ≡ option_and_then (type_in objects i) (slice_get (numbers_in imports) k)
in_row objects i symbols n [] k = refl
in_row objects i symbols n (m ∷ imports) k = by_entity m.entity refl k (λ j. in_row objects i symbols (n + 1) imports j) (in_row objects i symbols n imports k)
  where
    by_entity : (e : ImportEntity) → m.entity ≡ e → (k : ℕ)
        → ((j : ℕ) → option_and_then (slot_type objects) (slice_get (numbered_slots i Func symbols (n + 1) (slot_imports Func imports)) j) ≡ option_and_then (type_in objects i) (slice_get (numbers_in imports) j))
        → option_and_then (slot_type objects) (slice_get (numbered_slots i Func symbols n (slot_imports Func imports)) k) ≡ option_and_then (type_in objects i) (slice_get (numbers_in imports) k)
        → option_and_then (slot_type objects) (slice_get (numbered_slots i Func symbols n (slot_imports Func (m ∷ imports))) k) ≡ option_and_then (type_in objects i) (slice_get (numbers_in (m ∷ imports)) k)
    by_entity (entity.Func t) e zero later same = rw e refl
    by_entity (entity.Func t) e (suc k) later same = rw e (later k)
    by_entity _ e k later same = rw e same

row_of : (objects : List Object) (i k : ℕ) → number_at (slot_numbers objects) i k ≡ option_and_then (λ (o : Object). slice_get (numbers_in o.imports) k) (slice_get objects i)
row_of objects i k =
    let e = slice_get-map (λ (o : Object). numbers_in o.imports) objects i in
    elim (cases_option (slice_get objects i)) [
      | inl none ↦ rw (e, none) refl
      | inr o ↦ rw (e, o.1) refl
    ]

-- the type of the slot of that number of an object
pub slot_typed : (objects : List Object) (i k : ℕ)
    → option_and_then (slot_type objects) (slice_get (import_slots objects i Func) k) ≡ option_and_then (type_in objects i) (number_at (slot_numbers objects) i k)
slot_typed objects i k = elim (cases_option (slice_get objects i)) [
  | inl none ↦ rw (row_of objects i k, none) refl
  | inr o ↦ rw (row_of objects i k, o.1) (in_row objects i (o.0).symbols 0 (o.0).imports k)
]

-- ---- the numbers of these types

number_in_row : (i : ℕ) (symbols : List Symbol) (n : ℕ) (imports : List Imported) (k : ℕ)
    → option_and_then (λ (t : ImportSlot). type_number t.item.entity) (slice_get (numbered_slots i Func symbols n (slot_imports Func imports)) k) ≡ slice_get (numbers_in imports) k
number_in_row i symbols n [] k = refl
number_in_row i symbols n (m ∷ imports) k = by_entity m.entity refl k (λ j. number_in_row i symbols (n + 1) imports j) (number_in_row i symbols n imports k)
  where
    by_entity : (e : ImportEntity) → m.entity ≡ e → (k : ℕ)
        → ((j : ℕ) → option_and_then (λ (t : ImportSlot). type_number t.item.entity) (slice_get (numbered_slots i Func symbols (n + 1) (slot_imports Func imports)) j) ≡ slice_get (numbers_in imports) j)
        → option_and_then (λ (t : ImportSlot). type_number t.item.entity) (slice_get (numbered_slots i Func symbols n (slot_imports Func imports)) k) ≡ slice_get (numbers_in imports) k
        → option_and_then (λ (t : ImportSlot). type_number t.item.entity) (slice_get (numbered_slots i Func symbols n (slot_imports Func (m ∷ imports))) k) ≡ slice_get (numbers_in (m ∷ imports)) k
    by_entity (entity.Func t) e zero later same = rw e refl
    by_entity (entity.Func t) e (suc k) later same = rw e (later k)
    by_entity _ e k later same = rw e same

-- the number of the type of the slot of that number of an object
pub slot_numbered : (objects : List Object) (i k : ℕ)
    → option_and_then (λ (t : ImportSlot). type_number t.item.entity) (slice_get (import_slots objects i Func) k) ≡ number_at (slot_numbers objects) i k
slot_numbered objects i k = elim (cases_option (slice_get objects i)) [
  | inl none ↦ rw (row_of objects i k, none) refl
  | inr o ↦ rw (row_of objects i k, o.1) (number_in_row i (o.0).symbols 0 (o.0).imports k)
]
