-- What kept relocations name in the output.
use Rattle.std.specs.Prelude.{◌≡◌, ◌<◌, ℕ, true, List, length, Contains, Option, Some, None, slice_get, ⊤}
use Rattle.std.specs.List.{AllByRecursion}
use Rattle.std.specs.Option.{option_and_then}
use Rattle.wl_module.specs.Types.{FunctionType}
use Rattle.wl_linking.specs.Fitting.{IsWhole}
use Rattle.wl_linking.specs.Object.{Object}
use Rattle.wl_linking.specs.Steps.{Clear}
use Rattle.wl_custom.specs.RelocationTypes.{takes_kind}
use Rattle.wl_custom.specs.Symbols.{Symbol as LinkedSymbol}
use Rattle.wl_custom.specs.declared.symbols.WasmSymbolKind.{WasmSymbolKind}
use Rattle.wl_custom.specs.declared.symbols.WasmSymbolKind.TheVariants.{Func, Data, Global, Section, Event, Table}
use Rattle.wl_symbols.specs.Live.{IsLiveOf}
use Rattle.wl_symbols.specs.declared.units.WasmGcUnit.TheVariants.{DefinedFunction}
use Rattle.wl_symbols.specs.LinkerNames.{kind_of}
use Rattle.wl_symbols.specs.declared.linker_symbol.WasmLinkerSymbol.{WasmLinkerSymbol}
use Rattle.wl_symbols.specs.ImportSlots.{ImportSlot, import_slots}
use Rattle.wl_symbols.specs.Input.{Input, keeps}
use Rattle.wl_symbols.specs.KeptSlots.{is_kept_slot}
use Rattle.wl_bind.specs.FunctionBinding.{binds_function}
use Rattle.wl_bind.specs.FunctionSymbols.{fun}
use Rattle.wl_bind.specs.GlobalSpace.{GlobalEntry, local_globals}
use Rattle.wl_bind.specs.IndexMaps.{got_mem_global, got_func_global}
use Rattle.wl_bind.specs.Kinds.{IsWrongKind}
use Rattle.wl_bind.specs.Made.{is_made}
use Rattle.wl_bind.specs.OutputTypes.{local_types}
use Rattle.wl_bind.specs.Scan.{table_functions}
use Rattle.wl_bind.specs.declared.binding.FunctionTarget.{FunctionTarget}
use Rattle.wl_bind.specs.declared.binding.FunctionTarget.TheVariants.{Defined, Made, Host, Stub}
use Rattle.wl_symbols.specs.declared.relocated.Relocated.{Relocated}

-- ---- types and globals of an object, by their numbers there

-- what a list has at a place, if it has anything there
abbrev pub there : {X : Type 0} → List (Option X) → ℕ → Option X
there {X} list place = option_and_then (λ (x : Option X). x) (slice_get list place)

-- the type of that number, where it is live
abbrev pub live_type : Input → ℕ → Object → ℕ → Option FunctionType
live_type input object o number = there (local_types input object o) number

-- what the global of that number stands for, where the output has it
abbrev pub local_global : Input → ℕ → Object → ℕ → Option GlobalEntry
local_global input object o number = there (local_globals input object o) number

-- ---- symbols

-- the global whose number the symbol that a relocation names stands for, which has that kind and
-- index: its own, or the one that holds the address of data or the slot of a function
abbrev pub symbol_global : Input → Relocated → Object → WasmSymbolKind → ℕ → Option GlobalEntry
symbol_global input r o Global index = local_global input r.object o index
symbol_global input r o Data index = got_mem_global input r.object o r.relocation.index
symbol_global input r o Func index = got_func_global input r.object o r.relocation.index
symbol_global input r o Section index = None
symbol_global input r o Event index = None
symbol_global input r o Table index = None

-- the function has a slot in the table: a stub has the first one, and others their own
abbrev pub HasSlot : Input → FunctionTarget → Type 0
HasSlot input (Stub object slot) = ⊤
HasSlot input (Defined object function) = Contains (table_functions input) (Defined object function)
HasSlot input (Made m) = Contains (table_functions input) (Made m)
HasSlot input (Host object slot) = Contains (table_functions input) (Host object slot)

-- ---- functions that the output has

-- the import slot of that number of the functions of an object is kept, and bound to the function
pub record IsBoundTo (input : Input) (object slot : ℕ) (target : FunctionTarget) : Type 0 where
  pub slot_is : ImportSlot
  pub here : slice_get (import_slots input.link.objects object Func) slot ≡ Some slot_is
  pub kept : is_kept_slot input slot_is ≡ true
  pub bound : binds_function input slot_is ≡ target

-- the object of that number defines the function of that number, and it is kept
pub record IsKeptFunction (input : Input) (object function : ℕ) : Type 0 where
  pub definer : Object
  pub here : slice_get input.link.objects object ≡ Some definer
  pub within : function < length definer.functions
  pub kept : keeps input object (DefinedFunction function) ≡ true

-- the linker makes the function
pub record IsMadeFunction (input : Input) (m : WasmLinkerSymbol) : Type 0 where
  pub kind : kind_of m ≡ Func
  pub made : is_made input m ≡ true

-- the output has the function; an import of the host and a stub are what their first slot is bound
-- to
abbrev pub IsInOutput : Input → FunctionTarget → Type 0
IsInOutput input (Defined object function) = IsKeptFunction input object function
IsInOutput input (Made m) = IsMadeFunction input m
IsInOutput input (Host object slot) = IsBoundTo input object slot (Host object slot)
IsInOutput input (Stub object slot) = IsBoundTo input object slot (Stub object slot)

-- ---- relocations

-- a link of whole objects, in which kept relocations take the symbols that they name
pub record IsSettled (input : Input) : Type 0 where
  pub whole : AllByRecursion IsWhole input.link.objects
  pub kept : IsLiveOf input.link input.live
  pub kinds : Clear (IsWrongKind input)

-- the relocation names a type that the output has
pub record NamesType (input : Input) (r : Relocated) : Type 0 where
  pub object : Object
  pub here : slice_get input.link.objects r.object ≡ Some object
  pub ty : FunctionType
  pub live : live_type input r.object object r.relocation.index ≡ Some ty

-- it names a symbol of a kind that it takes
pub record NamesSymbol (input : Input) (r : Relocated) : Type 0 where
  pub object : Object
  pub here : slice_get input.link.objects r.object ≡ Some object
  pub symbol : LinkedSymbol
  pub at : slice_get object.symbols r.relocation.index ≡ Some symbol
  pub taken : takes_kind r.relocation.ty symbol.kind ≡ true

-- it names a symbol that leads to a function that the output has
pub record NamesFunction (input : Input) (r : Relocated) : Type 0 where
  pub target : FunctionTarget
  pub leads : fun input r.object r.relocation.index ≡ Some target
  pub there_is : IsInOutput input target

-- it names a symbol that stands for a global that the output has
pub record NamesGlobal (input : Input) (r : Relocated) : Type 0 where
  pub named : NamesSymbol input r
  pub global : GlobalEntry
  pub stands : symbol_global input r named.object named.symbol.kind named.symbol.index
      ≡ Some global
