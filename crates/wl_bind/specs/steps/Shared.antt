-- Slots that are left to the host, as they are found in the rows of resolutions.
use Rattle.std.specs.Prelude.{ℕ, Bool, false, List, Option, None, slice_get}
use Rattle.std.specs.Option.{option_and_then, option_map_or}
use Rattle.wl_custom.specs.declared.symbols.WasmSymbolKind.{WasmSymbolKind}
use Rattle.wl_custom.specs.declared.symbols.WasmSymbolKind.TheVariants.{Func, Data, Global, Section, Event, Table}
use Rattle.wl_symbols.specs.ImportSlots.{ImportSlot, import_slots}
use Rattle.wl_symbols.specs.Input.{Input}
use Rattle.wl_bind.specs.Undefined.{is_host_slot}
use Rattle.wl_bind.specs.declared.resolution.ImportResolution.{ImportResolution}
use Rattle.wl_bind.specs.declared.resolution.ObjectImportResolutions.{ObjectImportResolutions}

-- what the slot of that kind and number of an object is resolved to
abbrev pub resolution_at : List ObjectImportResolutions → WasmSymbolKind → ℕ → ℕ
    → Option ImportResolution
resolution_at rows Func object number =
    option_and_then (λ (row : ObjectImportResolutions). slice_get row.function_resolutions number)
    (slice_get rows object)
resolution_at rows Global object number =
    option_and_then (λ (row : ObjectImportResolutions). slice_get row.global_resolutions number)
    (slice_get rows object)
resolution_at rows Data object number = None
resolution_at rows Section object number = None
resolution_at rows Event object number = None
resolution_at rows Table object number = None

-- there is a slot of that kind and number of the object, and it is left to the host
abbrev pub is_host_at : Input → WasmSymbolKind → ℕ → ℕ → Bool
is_host_at input kind object number =
    option_map_or (is_host_slot input kind)
    (slice_get (import_slots input.link.objects object kind) number) false

-- the same of the kind, object and number of a slot
abbrev pub is_host_of : Input → ImportSlot → Bool
is_host_of input t = is_host_at input t.kind t.object t.number
