-- The units of what symbols and names stand for.
use Rattle.std.specs.Prelude.{ℕ, ◌&&◌, ◌||◌, Bool, if◌then◌else◌, List, Option, None, option_map}
use Rattle.std.specs.Option.{option_and_then}
use Rattle.wl_custom.specs.Symbols.{Symbol as LinkedSymbol, is_function, is_data, is_undefined, is_weak}
use Rattle.wl_custom.specs.declared.symbols.WasmSymbolKind.{WasmSymbolKind}
use Rattle.wl_symbols.specs.Link.{Link}
use Rattle.wl_symbols.specs.Entries.{symbol_in}
use Rattle.wl_symbols.specs.Names.{named, def_for}
use Rattle.wl_symbols.specs.declared.entry.Definition.{Definition}
use Rattle.wl_symbols.specs.declared.entry.Definition.TheVariants.{Symbol, Made}
use Rattle.wl_symbols.specs.Units.{unit_in, units_at}
use Rattle.wl_symbols.specs.declared.units.LinkUnit.{LinkUnit}
use Rattle.wl_symbols.specs.declared.units.UnitCounts.{UnitCounts}

-- the unit of a symbol, with its object
abbrev pub unit_at : List UnitCounts → ℕ → LinkedSymbol → Option LinkUnit
unit_at ns object s =
    option_map (λ u. record { object = object; unit = u }) (unit_in (units_at ns object) s)

-- the unit of a symbol that its object defines
abbrev pub defined_unit : List UnitCounts → ℕ → LinkedSymbol → Option LinkUnit
defined_unit ns object s = if is_undefined s then None else unit_at ns object s

-- the unit of what an object defines
abbrev pub definition_unit : Link → List UnitCounts → Definition → Option LinkUnit
definition_unit link ns (Symbol object symbol) =
    option_and_then (λ s. defined_unit ns object s) (symbol_in link.objects object symbol)
definition_unit link ns (Made m) = None

-- what the symbol of that place stands for, if there is one
abbrev pub definition_at : Link → ℕ → ℕ → Option Definition
definition_at link object symbol =
    option_map (λ s. def_for link object symbol s) (symbol_in link.objects object symbol)

-- the unit of what an object defines and the symbol of that place stands for
abbrev pub other_unit : Link → List UnitCounts → ℕ → ℕ → Option LinkUnit
other_unit link ns object symbol =
    option_and_then (λ d. definition_unit link ns d) (definition_at link object symbol)

-- the unit of what an object defines and a name stands for
abbrev pub named_unit : Link → List UnitCounts → List ℕ → Option LinkUnit
named_unit link ns name = option_and_then (λ d. definition_unit link ns d) (named link name)

-- weak functions and weak data give way to other definitions
abbrev pub gives_way : WasmSymbolKind → Bool
gives_way kind = is_function kind || is_data kind

-- what a symbol stands for is followed beside the symbol: it is undefined, or weak and a function
-- or data
abbrev pub is_replaceable : LinkedSymbol → Bool
is_replaceable s = is_undefined s || (is_weak s && gives_way s.kind)

-- the unit of what such a symbol stands for
abbrev pub replacing_unit : Link → List UnitCounts → ℕ → ℕ → LinkedSymbol → Option LinkUnit
replacing_unit link ns object symbol s =
    if is_replaceable s then other_unit link ns object symbol else None
