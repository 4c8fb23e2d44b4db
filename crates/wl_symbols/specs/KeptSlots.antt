-- The import slots that are kept.
use Rattle.std.specs.Prelude.{ℕ, ◌+◌, Bool, List, [], ◌∷◌, ◌++◌}
use Rattle.std.specs.List.{filter}
use Rattle.std.specs.Option.{is_none}
use Rattle.wl_linking.specs.Object.{Object}
use Rattle.wl_custom.specs.declared.symbols.WasmSymbolKind.{WasmSymbolKind}
use Rattle.wl_symbols.specs.ImportSlots.{ImportSlot, object_slots}
use Rattle.wl_symbols.specs.SlotTargets.{slot_target}
use Rattle.wl_symbols.specs.Input.{Input, keeps_slot}

-- the slots of that kind of these objects, the first of which has that number
abbrev pub slots_from : WasmSymbolKind → ℕ → List Object → List ImportSlot
slots_from kind object [] = []
slots_from kind object (o ∷ objects) =
    object_slots object kind o ++ slots_from kind (object + 1) objects

-- the slot is kept
abbrev pub is_kept_slot : Input → ImportSlot → Bool
is_kept_slot input t = keeps_slot input t.kind t.object t.number

-- the kept slots of that kind, object by object
abbrev pub kept_slots : Input → WasmSymbolKind → List ImportSlot
kept_slots input kind = filter (is_kept_slot input) (slots_from kind 0 input.link.objects)

-- those to which names bind nothing: rules 1 to 3 leave them
abbrev pub left_slots : Input → WasmSymbolKind → List ImportSlot
left_slots input kind =
    filter (λ (t : ImportSlot). is_none (slot_target input.link t)) (kept_slots input kind)

-- names bind nothing to the slot
unfoldable pub is_left_slot : Input → ImportSlot → Bool
is_left_slot input t = is_none (slot_target input.link t)
