-- The imports that the host is asked for.
use Rattle.std.specs.Prelude.{ℕ, List, map, Option, None, if◌then◌else◌, slice_get}
use Rattle.std.specs.Option.{option_and_then}
use Rattle.wl_custom.specs.declared.symbols.WasmSymbolKind.{WasmSymbolKind}
use Rattle.wl_custom.specs.declared.symbols.WasmSymbolKind.TheVariants.{Func, Data, Global, Section, Event, Table}
use Rattle.wl_symbols.specs.ImportSlots.{ImportSlot}
use Rattle.wl_symbols.specs.Left.{HostImport, first_imports, first_slot, place_of_import}
use Rattle.wl_symbols.specs.Input.{Input}
use Rattle.wl_bind.specs.FunctionBinding.{host_functions}
use Rattle.wl_bind.specs.GlobalBinding.{host_globals}
use Rattle.wl_bind.specs.SlotRows.{slot_rows}
use Rattle.wl_bind.specs.Undefined.{is_host_slot}

-- the functions that the host is asked for, one per module and field name, in order of their first
-- slots
abbrev pub function_imports : Input → List HostImport
function_imports input = map first_slot (first_imports (host_functions input))

-- the globals that it is asked for, likewise
abbrev pub global_imports : Input → List HostImport
global_imports input = map first_slot (first_imports (host_globals input))

-- the place of a slot's import among these, where the slot is left to the host
abbrev pub import_place : Input → WasmSymbolKind → List HostImport → ImportSlot → Option ℕ
import_place input kind imports t =
    if is_host_slot input kind t then place_of_import t.item.origin t.item.name imports else None

-- those of the slots of a kind of all objects
abbrev pub import_places : Input → WasmSymbolKind → List HostImport → List (List (Option ℕ))
import_places input kind imports =
    slot_rows (import_place input kind imports) kind 0 input.link.objects

-- the imports of functions and of globals, and for each slot of each object its import's place
pub record Shared : Type 0 where
  pub functions : List HostImport
  pub globals : List HostImport
  pub function_places : List (List (Option ℕ))
  pub global_places : List (List (Option ℕ))

-- those of a link
abbrev pub shared_of : Input → Shared
shared_of input = record {
  functions = function_imports input;
  globals = global_imports input;
  function_places = import_places input Func (function_imports input);
  global_places = import_places input Global (global_imports input);
}

-- the place in a row of rows
abbrev pub place_in : List (List (Option ℕ)) → ℕ → ℕ → Option ℕ
place_in rows object slot =
    option_and_then (λ (row : List (Option ℕ)). option_and_then (λ (p : Option ℕ). p)
    (slice_get row slot))
    (slice_get rows object)

-- the place of the import that the slot of that kind and number is
abbrev pub place_at : Shared → WasmSymbolKind → ℕ → ℕ → Option ℕ
place_at shared Func object slot = place_in shared.function_places object slot
place_at shared Global object slot = place_in shared.global_places object slot
place_at shared Data object slot = None
place_at shared Section object slot = None
place_at shared Event object slot = None
place_at shared Table object slot = None
