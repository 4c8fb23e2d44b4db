-- The units of objects, and how they are numbered.
use Rattle.std.specs.Prelude.{◌≡◌, ℕ, ◌+◌, ◌-◌, ◌<◌, ◌≤◌, ◌^◌, ◌||◌, Bool, true, false, nat_lt, nat_le, if◌then◌else◌, List, length, map, take, sum_by, All, Option, Some, None, slice_index, slice_index_or}
use Rattle.std.specs.Option.{option_map}
use Rattle.wl_module.specs.declared.imports.ExternalKind.TheVariants.{Func as FuncKind, Global as GlobalKind}
use Rattle.wl_linking.specs.Object.{Object}
use Rattle.wl_linking.specs.Spaces.{count_imports}
use Rattle.wl_custom.specs.Symbols.{Symbol, is_undefined, is_absolute}
use Rattle.wl_custom.specs.declared.symbols.WasmSymbolKind.{WasmSymbolKind}
use Rattle.wl_custom.specs.declared.symbols.WasmSymbolKind.TheVariants.{Func, Data, Global, Section, Event, Table}
use Rattle.wl_symbols.specs.declared.units.WasmGcUnit.{WasmGcUnit}
use Rattle.wl_symbols.specs.declared.units.WasmGcUnit.TheVariants.{DefinedFunction, DefinedGlobal, DataSegment, FunctionImport, GlobalImport}
use Rattle.wl_symbols.specs.declared.units.LinkUnit.{LinkUnit}
use Rattle.wl_symbols.specs.declared.units.UnitCounts.{UnitCounts}

-- ---- the units of an object

-- how many units of each kind an object has
abbrev pub counts_of : Object → UnitCounts
counts_of o = record {
  functions = length o.functions;
  globals = length o.globals;
  segments = length o.segments;
  function_imports = count_imports FuncKind o.imports;
  global_imports = count_imports GlobalKind o.imports;
}

-- none
abbrev pub no_units : UnitCounts
no_units = record {
  functions = 0;
  globals = 0;
  segments = 0;
  function_imports = 0;
  global_imports = 0;
}

-- the number of a unit among those of its kind
abbrev pub unit_index : WasmGcUnit → ℕ
unit_index (DefinedFunction k) = k
unit_index (DefinedGlobal k) = k
unit_index (DataSegment k) = k
unit_index (FunctionImport k) = k
unit_index (GlobalImport k) = k

-- how many units of that kind there are
abbrev pub count_of_kind : UnitCounts → WasmGcUnit → ℕ
count_of_kind n (DefinedFunction k) = n.functions
count_of_kind n (DefinedGlobal k) = n.globals
count_of_kind n (DataSegment k) = n.segments
count_of_kind n (FunctionImport k) = n.function_imports
count_of_kind n (GlobalImport k) = n.global_imports

-- the unit exists
abbrev pub has_unit : UnitCounts → WasmGcUnit → Bool
has_unit n u = nat_lt (unit_index u) (count_of_kind n u)

-- the unit of the same kind with another number
abbrev pub sibling_of : WasmGcUnit → ℕ → WasmGcUnit
sibling_of (DefinedFunction k) j = DefinedFunction j
sibling_of (DefinedGlobal k) j = DefinedGlobal j
sibling_of (DataSegment k) j = DataSegment j
sibling_of (FunctionImport k) j = FunctionImport j
sibling_of (GlobalImport k) j = GlobalImport j

-- ---- the unit of a symbol

-- the number among what is defined, by an index that counts imported things first (core
-- specification, "Indices")
abbrev pub defined_number : ℕ → ℕ → ℕ → Option ℕ
defined_number imports count index =
    if nat_lt index imports || nat_le count (index - imports) then None else Some (index - imports)

-- the number, where there are more things than that
abbrev pub number_below : ℕ → ℕ → Option ℕ
number_below count number = if nat_lt number count then Some number else None

-- by the kind of a symbol, by whether its object leaves it undefined, and by its index: functions
-- and globals, and the segments of defined data
abbrev pub unit_by : UnitCounts → WasmSymbolKind → Bool → ℕ → Option WasmGcUnit
unit_by n Func true index = option_map FunctionImport (number_below n.function_imports index)
unit_by n Func false index =
    option_map DefinedFunction (defined_number n.function_imports n.functions index)
unit_by n Global true index = option_map GlobalImport (number_below n.global_imports index)
unit_by n Global false index =
    option_map DefinedGlobal (defined_number n.global_imports n.globals index)
unit_by n Data true index = None
unit_by n Data false index = option_map DataSegment (number_below n.segments index)
unit_by n Section undefined index = None
unit_by n Event undefined index = None
unit_by n Table undefined index = None

-- the unit of a symbol of an object with these units; data at an absolute address lies in no
-- segment
abbrev pub unit_in : UnitCounts → Symbol → Option WasmGcUnit
unit_in n s = if is_absolute s then None else unit_by n s.kind (is_undefined s) s.index

-- the unit of a symbol of an object
abbrev pub unit_of : Object → Symbol → Option WasmGcUnit
unit_of o s = unit_in (counts_of o) s

-- ---- the units of all objects

-- the units that all objects have
abbrev pub units_of : List Object → List UnitCounts
units_of objects = map counts_of objects

-- the units of the object of that number
abbrev pub units_at : List UnitCounts → ℕ → UnitCounts
units_at ns object = slice_index_or ns object no_units

-- the unit exists
abbrev pub exists : List UnitCounts → LinkUnit → Bool
exists ns u = has_unit (units_at ns u.object) u.unit

-- ---- numbers: object by object, kind by kind

-- how many units an object has
abbrev pub unit_count : UnitCounts → ℕ
unit_count n = n.functions + n.globals + n.segments + n.function_imports + n.global_imports

-- how many units stand before those of that kind
abbrev pub before_kind : UnitCounts → WasmGcUnit → ℕ
before_kind n (DefinedFunction k) = 0
before_kind n (DefinedGlobal k) = n.functions
before_kind n (DataSegment k) = n.functions + n.globals
before_kind n (FunctionImport k) = n.functions + n.globals + n.segments
before_kind n (GlobalImport k) = n.functions + n.globals + n.segments + n.function_imports

-- a unit's place among all of its object
abbrev pub number_in_object : UnitCounts → WasmGcUnit → ℕ
number_in_object n u = before_kind n u + unit_index u

-- how many units the objects before that one have
abbrev pub units_before : List UnitCounts → ℕ → ℕ
units_before ns object = sum_by unit_count (take object ns)

-- how many units there are
abbrev pub total_of : List UnitCounts → ℕ
total_of ns = sum_by unit_count ns

-- the number of a unit among all
unfoldable pub unit_number : List UnitCounts → LinkUnit → ℕ
unit_number ns u = units_before ns u.object + number_in_object (units_at ns u.object) u.unit

-- the number of a unit that exists
abbrev pub unit_number_if : List UnitCounts → LinkUnit → Option ℕ
unit_number_if ns u = if exists ns u then Some (unit_number ns u) else None

-- few enough to be added up
abbrev pub IsSmall : UnitCounts → Type 0
IsSmall n = unit_count n ≤ 2 ^ 33

-- where the units of each object begin, and how many there are
pub record AreBases (ns : List UnitCounts) (bases : List ℕ) (total : ℕ) : Type 0 where
  pub size : length bases ≡ length ns
  pub at : (k : ℕ) → k < length ns → slice_index bases k ≡ units_before ns k
  pub all : total ≡ total_of ns
  pub fits : total < 2 ^ 64
  pub small : All IsSmall ns
