-- The units of all objects, in the order of their numbers.
use Rattle.std.specs.Prelude.{ℕ, List, ◌++◌, map}
use Rattle.std.specs.List.{range_with_len}
use Rattle.wl_lists.specs.Rows.{by_number}
use Rattle.wl_symbols.specs.Units.{sibling_of}
use Rattle.wl_symbols.specs.declared.units.LinkUnit.{LinkUnit}
use Rattle.wl_symbols.specs.declared.units.UnitCounts.{UnitCounts}
use Rattle.wl_symbols.specs.declared.units.WasmGcUnit.{WasmGcUnit}
use Rattle.wl_symbols.specs.declared.units.WasmGcUnit.TheVariants.{DefinedFunction, DefinedGlobal, DataSegment, FunctionImport, GlobalImport}

-- the unit of an object of that kind and number
abbrev pub unit_of_kind : ℕ → WasmGcUnit → ℕ → LinkUnit
unit_of_kind object kind k = record { object = object; unit = sibling_of kind k }

-- so many units of one kind
abbrev pub kind_units : ℕ → WasmGcUnit → ℕ → List LinkUnit
kind_units object kind n = map (unit_of_kind object kind) (range_with_len 0 n)

-- the units of an object, kind by kind
abbrev pub object_units : ℕ → UnitCounts → List LinkUnit
object_units object n =
    kind_units object (DefinedFunction 0) n.functions
    ++ (kind_units object (DefinedGlobal 0) n.globals
    ++ (kind_units object (DataSegment 0) n.segments
    ++ (kind_units object (FunctionImport 0) n.function_imports
    ++ kind_units object (GlobalImport 0) n.global_imports)))

-- all units, by object, kind and number
abbrev pub all_units : List UnitCounts → List LinkUnit
all_units ns = by_number object_units 0 ns
