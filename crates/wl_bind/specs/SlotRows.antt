-- What is made of the import slots of each object.
use Rattle.std.specs.Prelude.{ℕ, ◌+◌, List, [], ◌∷◌, map}
use Rattle.wl_linking.specs.Object.{Object}
use Rattle.wl_custom.specs.declared.symbols.WasmSymbolKind.{WasmSymbolKind}
use Rattle.wl_symbols.specs.ImportSlots.{ImportSlot, object_slots}

-- what is made of the slots of that kind of these objects, a row an object, the first of which has
-- that number
abbrev pub slot_rows : {X : Type 0} → (ImportSlot → X) → WasmSymbolKind → ℕ → List Object
    → List (List X)
slot_rows f kind object [] = []
slot_rows f kind object (o ∷ objects) =
    map f (object_slots object kind o) ∷ slot_rows f kind (object + 1) objects
