-- What import slots are bound to by what names stand for, whatever is kept.
use Rattle.std.specs.Prelude.{ℕ, ◌&&◌, Bool, if◌then◌else◌, List, [], ◌∷◌, length, map, Option, Some, None, slice_get, option_map}
use Rattle.std.specs.Option.{option_or, option_and_then}
use Rattle.wl_module.specs.declared.imports.ExternalKind.TheVariants as external
use Rattle.wl_linking.specs.Object.{Object}
use Rattle.wl_linking.specs.Spaces.{count_imports}
use Rattle.wl_custom.specs.Symbols.{Symbol as LinkedSymbol, is_defined}
use Rattle.wl_custom.specs.declared.symbols.WasmSymbolKind.{WasmSymbolKind}
use Rattle.wl_custom.specs.declared.symbols.WasmSymbolKind.TheVariants.{Func, Data, Global, Section, Event, Table}
use Rattle.wl_symbols.specs.Link.{Link}
use Rattle.wl_symbols.specs.LinkerNames.{is_imported_as, matches_kind}
use Rattle.wl_symbols.specs.Names.{named, def}
use Rattle.wl_symbols.specs.declared.entry.Definition.{Definition}
use Rattle.wl_symbols.specs.declared.entry.Definition.TheVariants.{Symbol, Made as MadeName}
use Rattle.wl_symbols.specs.ImportSlots.{ImportSlot, import_slots}
use Rattle.wl_symbols.specs.Units.{defined_number}
use Rattle.wl_symbols.specs.declared.targets.SlotTarget.{SlotTarget}
use Rattle.wl_symbols.specs.declared.targets.SlotTarget.TheVariants.{Defined, Made}

-- what the first of these gives that gives something
abbrev pub first_some : {X Y : Type 0} → (X → Option Y) → List X → Option Y
first_some f [] = None
first_some f (x ∷ xs) = option_or (f x) (first_some f xs)

-- ---- what definitions give

-- the number of a function or global among those that an object defines, by its index
abbrev pub own_number : WasmSymbolKind → Object → ℕ → Option ℕ
own_number Func o index =
    defined_number (count_imports external.Func o.imports) (length o.functions) index
own_number Data o index = None
own_number Global o index =
    defined_number (count_imports external.Global o.imports) (length o.globals) index
own_number Section o index = None
own_number Event o index = None
own_number Table o index = None

-- the symbol is a definition of that kind
abbrev pub is_definition_of : WasmSymbolKind → LinkedSymbol → Bool
is_definition_of kind s = is_defined s && is_imported_as kind s.kind

-- what a symbol of the object of that number defines of that kind
abbrev pub symbol_target : WasmSymbolKind → ℕ → Object → LinkedSymbol → Option SlotTarget
symbol_target kind object o s =
    if is_definition_of kind s
    then option_map (λ n. Defined object n) (own_number kind o s.index)
    else None

-- what an object defines of that kind, where this is its definition
abbrev pub object_target : Link → WasmSymbolKind → Definition → Option SlotTarget
object_target link kind (Symbol object symbol) =
    option_and_then
    (λ o. option_and_then (symbol_target kind object o) (slice_get o.symbols symbol))
    (slice_get link.objects object)
object_target link kind (MadeName m) = None

-- what the linker makes of that kind, where this is its definition
abbrev pub made_target : WasmSymbolKind → Definition → Option SlotTarget
made_target kind (Symbol object symbol) = None
made_target kind (MadeName m) = if matches_kind kind m then Some (Made m) else None

-- ---- the rules

-- first: the object definition of the slot's kind that some undefined symbol on the slot stands for
abbrev pub by_definition : Link → ImportSlot → Option SlotTarget
by_definition link t = first_some (λ k. object_target link t.kind (def link t.object k)) t.symbols

-- second: what the linker makes of that kind, and some undefined symbol on the slot stands for
abbrev pub by_symbol_name : Link → ImportSlot → Option SlotTarget
by_symbol_name link t = first_some (λ k. made_target t.kind (def link t.object k)) t.symbols

-- third: what the linker makes of that kind, and the field name stands for
abbrev pub by_field_name : Link → ImportSlot → Option SlotTarget
by_field_name link t = option_and_then (made_target t.kind) (named link t.item.name)

-- what the first of these rules that gives something binds the slot to
abbrev pub slot_target : Link → ImportSlot → Option SlotTarget
slot_target link t =
    option_or (by_definition link t) (option_or (by_symbol_name link t) (by_field_name link t))

-- what they bind the slots of that kind of the object of that number to, slot by slot
abbrev pub slot_targets : Link → ℕ → WasmSymbolKind → List (Option SlotTarget)
slot_targets link object kind = map (slot_target link) (import_slots link.objects object kind)
