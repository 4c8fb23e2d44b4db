-- Slots and rows, object by object.
use Rattle.std.proofs.Common.{◌≡◌, ◌∙◌, ℕ, zero, suc, ◌+◌, ◌<◌, List, [], ◌∷◌, ◌++◌, length, drop, map, refl, sym, ap, arith, append_assoc, Option, slice_get, Contains}
use Rattle.std.specs.Option.{option_map_or, option_and_then}
use Rattle.std.proofs.lemmas.List.Elements.{Contains-append_left, Contains-append_right}
use Rattle.wl_linking.specs.Object.{Object}
use Rattle.wl_custom.specs.declared.symbols.WasmSymbolKind.{WasmSymbolKind}
use Rattle.wl_custom.specs.declared.symbols.WasmSymbolKind.TheVariants.{Func}
use Rattle.wl_symbols.specs.ImportSlots.{ImportSlot, object_slots, import_slots}
use Rattle.wl_symbols.specs.Input.{Input}
use Rattle.wl_symbols.specs.KeptSlots.{slots_from}
use Rattle.wl_bind.specs.FunctionSymbols.{kept_binding, binding_at, function_bindings}
use Rattle.wl_bind.specs.SlotRows.{slot_rows}
use Rattle.wl_bind.specs.BindingSteps.{row_at}
use Rattle.wl_lists.proofs.Splits.{splits}

-- ---- the slots of objects

-- a slot of an object is among those of all objects
slot_within : (kind : WasmSymbolKind) (n i m : ℕ) (objects : List Object) (t : ImportSlot) → n + i ≡ m
    → Contains (option_map_or (object_slots m kind) (slice_get objects i) []) t → Contains (slots_from kind n objects) t
slot_within kind n i m [] t same listed = absurd (omega (arith, listed.1))
slot_within kind n zero m (o ∷ objects) t same listed =
    let at : m ≡ n = omega (arith, same) in
    Contains-append_left (object_slots n kind o) (slots_from kind (n + 1) objects) t (rw at at listed)
slot_within kind n (suc i) m (o ∷ objects) t same listed =
    Contains-append_right (object_slots n kind o) (slots_from kind (n + 1) objects) t (slot_within kind (n + 1) i m objects t (omega (arith, same)) listed)

pub slot_is_one : (kind : WasmSymbolKind) (objects : List Object) (i : ℕ) (t : ImportSlot) → Contains (import_slots objects i kind) t → Contains (slots_from kind 0 objects) t
slot_is_one kind objects i t listed = slot_within kind 0 i i objects t (omega arith) listed

-- ---- rows

-- one more behind the others, and what is left of them
pub one_more : {X : Type 0} (x : X) (list new left rest all : List X) → left ≡ x ∷ rest → new ≡ list ++ x ∷ [] → list ++ left ≡ all → new ++ rest ≡ all
one_more {X} x list new left rest all first pushed so =
    ap (λ (t : List X). t ++ rest) pushed ∙ append_assoc list (x ∷ []) rest ∙ (ap (λ (t : List X). list ++ t) (sym first) ∙ so)

-- the row of one more object
pub rows_more : {X : Type 0} (f : ImportSlot → X) (kind : WasmSymbolKind) (objects : List Object) (k : ℕ) → k < length objects
    → slot_rows f kind k (drop k objects) ≡ map f (import_slots objects k kind) ∷ slot_rows f kind (k + 1) (drop (k + 1) objects)
rows_more f kind objects k lt =
    let s = splits objects k lt in
    let e : k + 1 ≡ suc k = omega arith in
    let split : drop k objects ≡ s.x ∷ drop (k + 1) objects = rw e s.split in
    rw (split, s.here) refl

-- one more row after the others
pub row_pushed : {X : Type 0} (f : ImportSlot → X) (kind : WasmSymbolKind) (objects : List Object) (k : ℕ) (row : List X) (rows new all : List (List X)) → k < length objects
    → row ≡ map f (import_slots objects k kind) → new ≡ rows ++ row ∷ [] → rows ++ slot_rows f kind k (drop k objects) ≡ all
    → new ++ slot_rows f kind (k + 1) (drop (k + 1) objects) ≡ all
row_pushed f kind objects k row rows new all lt is pushed so =
    let rest = slot_rows f kind (k + 1) (drop (k + 1) objects) in
    one_more row rows new (slot_rows f kind k (drop k objects)) rest all (rw is (rows_more f kind objects k lt)) pushed so

entry_of : {X Y : Type 0} (f : X → Option Y) (xs : List X) (k : ℕ) → option_and_then (λ (y : Option Y). y) (slice_get (map f xs) k) ≡ option_and_then f (slice_get xs k)
entry_of f [] k = refl
entry_of f (x ∷ xs) zero = refl
entry_of f (x ∷ xs) (suc k) = entry_of f xs k

row_from : (input : Input) (n i m k : ℕ) (objects : List Object) → n + i ≡ m
    → row_at (slot_rows (kept_binding input) Func n objects) i k ≡ option_and_then (kept_binding input) (slice_get (option_map_or (object_slots m Func) (slice_get objects i) []) k)
row_from input n i m k [] same = refl
row_from input n zero m k (o ∷ objects) same =
    let at : m ≡ n = omega (arith, same) in
    rw at (entry_of (kept_binding input) (object_slots n Func o) k)
row_from input n (suc i) m k (o ∷ objects) same = row_from input (n + 1) i m k objects (omega (arith, same))

-- what the rows have is what slots are bound to
pub row_binding : (input : Input) (i k : ℕ) → row_at (function_bindings input) i k ≡ binding_at input i k
row_binding input i k = row_from input 0 i i k input.link.objects (omega arith)
