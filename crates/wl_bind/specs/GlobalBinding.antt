-- What a kept import slot of a global is bound to: the first of the rules that applies.
use Rattle.std.specs.Prelude.{ℕ, ◌&&◌, Bool, false, if◌then◌else◌, List, codes, Option, None, unwrap_or, position}
use Rattle.std.specs.Option.{option_or, option_map, option_map_or}
use Rattle.std.specs.List.{filter}
use Rattle.std.specs.Option.{is_none}
use Rattle.std.specs.Str.{bytes_eq}
use Rattle.wl_custom.specs.Symbols.{Symbol as LinkedSymbol, has_name}
use Rattle.wl_custom.specs.declared.symbols.WasmSymbolKind.TheVariants.{Global}
use Rattle.wl_symbols.specs.Entries.{symbol_in}
use Rattle.wl_symbols.specs.LinkerNames.{name_of}
use Rattle.wl_symbols.specs.declared.entry.Definition.{Definition}
use Rattle.wl_symbols.specs.declared.entry.Definition.TheVariants.{Symbol, Made as MadeName}
use Rattle.wl_symbols.specs.ImportSlots.{ImportSlot}
use Rattle.wl_symbols.specs.SlotTargets.{by_definition, by_symbol_name, by_field_name}
use Rattle.wl_symbols.specs.declared.targets.SlotTarget.{SlotTarget}
use Rattle.wl_symbols.specs.declared.targets.SlotTarget.TheVariants as slot
use Rattle.wl_symbols.specs.Left.{same_import, first_like, first_imports}
use Rattle.wl_symbols.specs.Input.{Input}
use Rattle.wl_symbols.specs.KeptSlots.{left_slots}
use Rattle.wl_bind.specs.Scan.{got_mem, got_func}
use Rattle.wl_bind.specs.declared.binding.FunctionTarget.{FunctionTarget}
use Rattle.wl_bind.specs.declared.binding.GlobalTarget.{GlobalTarget}
use Rattle.wl_bind.specs.declared.binding.GlobalTarget.TheVariants.{Defined, Made, GotMem, GotFunc, Host}

-- the global slots to which names bind nothing
abbrev pub left_globals : Input → List ImportSlot
left_globals input = left_slots input Global

-- what names bind a slot to, as a global
abbrev pub named_global : SlotTarget → GlobalTarget
named_global (slot.Defined object number) = Defined object number
named_global (slot.Made m) = Made m

-- the definition has the name; an empty name is none
abbrev pub is_called : Input → List ℕ → Definition → Bool
is_called input name (Symbol object symbol) =
    option_map_or
    (λ (s : LinkedSymbol). has_name s && bytes_eq s.name name)
    (symbol_in input.link.objects object symbol) false
is_called input name (MadeName m) = bytes_eq (name_of m) name

-- the slot is of that module
abbrev pub is_from : List ℕ → ImportSlot → Bool
is_from name t = bytes_eq t.item.origin name

-- fourth: the first entry of the GOT list of the slot's module whose definition has the field name
abbrev pub by_got : Input → ImportSlot → Option GlobalTarget
by_got input t =
    if is_from (codes "GOT.mem") t
    then option_map GotMem (position (is_called input t.item.name) (got_mem input))
    else if is_from (codes "GOT.func") t
    then option_map GotFunc
    (position (λ (p : Definition × FunctionTarget). is_called input t.item.name p.0)
    (got_func input))
    else None

-- the global slots that are left to the host
abbrev pub host_globals : Input → List ImportSlot
host_globals input = filter (λ (t : ImportSlot). is_none (by_got input t)) (left_globals input)

-- sixth: a host import, one per module and field name
abbrev pub by_host : Input → ImportSlot → GlobalTarget
by_host input t =
    let first = first_like same_import (first_imports (host_globals input)) t in
    Host first.object first.number

-- what the first of the rules that applies binds the slot to; the fifth is for functions
abbrev pub binds_global : Input → ImportSlot → GlobalTarget
binds_global input t =
    unwrap_or
    (option_or (option_map named_global (by_definition input.link t))
    (option_or (option_map named_global (by_symbol_name input.link t))
    (option_or (option_map named_global (by_field_name input.link t))
    (by_got input t))))
    (by_host input t)
