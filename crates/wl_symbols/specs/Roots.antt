-- Which units are kept by themselves.
use Rattle.std.specs.Prelude.{◌≡◌, ◌⊎◌, ℕ, ◌==◌, ◌&&◌, ◌||◌, Bool, true, false, not, List, Option, Some, None, Contains, option_map, slice_get}
use Rattle.std.specs.Option.{option_or}
use Rattle.wl_module.specs.Exports.{Exported}
use Rattle.wl_module.specs.declared.imports.ExternalKind.{ExternalKind}
use Rattle.wl_module.specs.declared.imports.ExternalKind.TheVariants as external
use Rattle.wl_linking.specs.Object.{Object}
use Rattle.wl_custom.specs.Symbols.{Symbol as LinkedSymbol, is_function, is_data, is_global, is_defined, is_weak, is_local, is_hidden, is_exported, is_no_strip}
use Rattle.wl_custom.specs.declared.infos.WasmInitFunc.{WasmInitFunc}
use Rattle.wl_custom.specs.declared.symbols.WasmSymbolKind.{WasmSymbolKind}
use Rattle.wl_symbols.specs.Link.{Link}
use Rattle.wl_symbols.specs.declared.entry.Definition.{Definition}
use Rattle.wl_symbols.specs.declared.entry.Definition.TheVariants.{Symbol, Made}
use Rattle.wl_symbols.specs.Units.{counts_of, units_of, unit_of, defined_number, number_below}
use Rattle.wl_symbols.specs.DefinedUnits.{unit_at, definition_at, other_unit, named_unit}
use Rattle.wl_symbols.specs.declared.units.LinkUnit.{LinkUnit}
use Rattle.wl_symbols.specs.declared.units.UnitCounts.{UnitCounts}
use Rattle.wl_symbols.specs.declared.units.WasmGcUnit.{WasmGcUnit}
use Rattle.wl_symbols.specs.declared.units.WasmGcUnit.TheVariants.{DefinedFunction, DefinedGlobal, FunctionImport, GlobalImport}

-- ---- exports

-- the function or the global that is exported under an index, which counts imported ones first
-- (core specification, "Indices")
abbrev pub export_unit : UnitCounts → ExternalKind → ℕ → Option WasmGcUnit
export_unit n external.Func index =
    option_or (option_map FunctionImport (number_below n.function_imports index))
    (option_map DefinedFunction (defined_number n.function_imports n.functions index))
export_unit n external.Global index =
    option_or (option_map GlobalImport (number_below n.global_imports index))
    (option_map DefinedGlobal (defined_number n.global_imports n.globals index))
export_unit n external.Table index = None
export_unit n external.Memory index = None

-- the object exports the function or the global
pub record RootByExport (link : Link) (u : LinkUnit) : Type 0 where
  pub object : Object
  pub here : slice_get link.objects u.object ≡ Some object
  pub exported : Exported
  pub one : Contains object.exports exported
  pub is : export_unit (counts_of object) exported.kind exported.index ≡ Some u.unit

-- ---- symbols

-- it is kept for the host, or though nothing refers to it
abbrev pub is_kept_symbol : LinkedSymbol → Bool
is_kept_symbol s = is_exported s || is_no_strip s

-- the symbol of the place stands for itself
abbrev pub is_itself : Option Definition → ℕ → ℕ → Bool
is_itself None object symbol = false
is_itself (Some (Made m)) object symbol = false
is_itself (Some (Symbol o k)) object symbol = (o == object) && (k == symbol)

-- functions, globals and data can be exported
abbrev pub is_exportable : WasmSymbolKind → Bool
is_exportable kind = is_function kind || is_data kind || is_global kind

-- a defined function, global or data symbol that isn't local, hidden or exported, and that stands
-- for itself: `--export-dynamic` exports it
abbrev pub is_candidate : Link → ℕ → ℕ → LinkedSymbol → Bool
is_candidate link object number s =
    is_exportable s.kind && is_defined s && not (is_local s) && not (is_hidden s)
    && not (is_exported s)
    && is_itself (definition_at link object number) object number

-- it is kept, or all candidates are
abbrev pub is_root_symbol : Link → ℕ → ℕ → LinkedSymbol → Bool
is_root_symbol link object number s =
    is_kept_symbol s || (link.args.export_dynamic && is_candidate link object number s)

-- such a symbol has the unit
pub record RootBySymbol (link : Link) (u : LinkUnit) : Type 0 where
  pub object : Object
  pub here : slice_get link.objects u.object ≡ Some object
  pub number : ℕ
  pub symbol : LinkedSymbol
  pub at : slice_get object.symbols number ≡ Some symbol
  pub kept : is_root_symbol link u.object number symbol ≡ true
  pub is : unit_of object symbol ≡ Some u.unit

-- ---- functions that run at the start

-- an object has an init function, and this is the unit of its symbol, or, where that is weak, the
-- unit of what an object defines in its place
pub record RootByInit (link : Link) (u : LinkUnit) : Type 0 where
  pub place : ℕ
  pub object : Object
  pub here : slice_get link.objects place ≡ Some object
  pub function : WasmInitFunc
  pub one : Contains object.init_funcs function
  pub symbol : LinkedSymbol
  pub names : slice_get object.symbols function.symbol_index ≡ Some symbol
  pub leads : (unit_at (units_of link.objects) place symbol ≡ Some u)
      ⊎ ((is_weak symbol ≡ true)
      × (other_unit link (units_of link.objects) place function.symbol_index ≡ Some u))

-- ---- names

-- a name that is to be exported, or that of the entry, stands for what an object defines
pub record RootByName (link : Link) (u : LinkUnit) : Type 0 where
  pub name : List ℕ
  pub asked : Contains link.args.export_symbols name ⊎ (link.args.entry ≡ Some name)
  pub leads : named_unit link (units_of link.objects) name ≡ Some u

-- ---- all of them

-- a unit is kept by itself
pub data IsRoot (link : Link) (u : LinkUnit) : Type 0 where
  by_export : RootByExport link u → IsRoot link u
  by_symbol : RootBySymbol link u → IsRoot link u
  by_init : RootByInit link u → IsRoot link u
  by_name : RootByName link u → IsRoot link u
