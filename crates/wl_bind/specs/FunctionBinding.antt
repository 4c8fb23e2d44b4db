-- What a kept import slot of a function is bound to: the first of the rules that applies.
use Rattle.std.specs.Prelude.{if◌then◌else◌, List, Option, Some, None, unwrap_or}
use Rattle.std.specs.Option.{option_or, option_map}
use Rattle.wl_custom.specs.declared.symbols.WasmSymbolKind.TheVariants.{Func}
use Rattle.wl_symbols.specs.ImportSlots.{ImportSlot}
use Rattle.wl_symbols.specs.SlotTargets.{by_definition, by_symbol_name, by_field_name}
use Rattle.wl_symbols.specs.declared.targets.SlotTarget.{SlotTarget}
use Rattle.wl_symbols.specs.declared.targets.SlotTarget.TheVariants as slot
use Rattle.wl_symbols.specs.Left.{same_field, same_import, first_like, is_stub, stubs, host_slots, first_imports}
use Rattle.wl_symbols.specs.Input.{Input}
use Rattle.wl_symbols.specs.KeptSlots.{left_slots}
use Rattle.wl_bind.specs.declared.binding.FunctionTarget.{FunctionTarget}
use Rattle.wl_bind.specs.declared.binding.FunctionTarget.TheVariants.{Defined, Made, Host, Stub}

-- the function slots to which names bind nothing
abbrev pub left_functions : Input → List ImportSlot
left_functions input = left_slots input Func

-- the stubs, each by its first slot
abbrev pub link_stubs : Input → List ImportSlot
link_stubs input = stubs input.link.objects (left_functions input)

-- the function slots that are left to the host
abbrev pub host_functions : Input → List ImportSlot
host_functions input = host_slots input.link.objects (left_functions input)

-- what names bind a slot to, as a function
abbrev pub named_function : SlotTarget → FunctionTarget
named_function (slot.Defined object number) = Defined object number
named_function (slot.Made m) = Made m

-- fifth: a stub, one per field name, where each kept function slot of that field name that names
-- leave has symbols, and only weak ones
abbrev pub by_stub : Input → ImportSlot → Option FunctionTarget
by_stub input t =
    if is_stub input.link.objects (left_functions input) t
    then (let first = first_like same_field (link_stubs input) t in
    Some (Stub first.object first.number))
    else None

-- sixth: a host import, one per module and field name
abbrev pub by_host : Input → ImportSlot → FunctionTarget
by_host input t =
    let first = first_like same_import (first_imports (host_functions input)) t in
    Host first.object first.number

-- what the first of the rules that applies binds the slot to; the fourth is for globals
abbrev pub binds_function : Input → ImportSlot → FunctionTarget
binds_function input t =
    unwrap_or
    (option_or (option_map named_function (by_definition input.link t))
    (option_or (option_map named_function (by_symbol_name input.link t))
    (option_or (option_map named_function (by_field_name input.link t))
    (by_stub input t))))
    (by_host input t)
