-- Where the things of each object stand in the output.
use Rattle.std.specs.Prelude.{◌≡◌, ℕ, ◌==◌, ◌&&◌, Bool, true, false, List, [], map, length, if◌then◌else◌, Option, Some, None, position}
use Rattle.std.specs.List.{list_any, range_with_len}
use Rattle.std.specs.Option.{option_map, option_map_or, option_and_then}
use Rattle.wl_linking.specs.Object.{Object}
use Rattle.wl_custom.specs.RelocationTypes.{is_global_index}
use Rattle.wl_custom.specs.Symbols.{Symbol as LinkedSymbol, is_data}
use Rattle.wl_symbols.specs.Entries.{symbol_in}
use Rattle.wl_symbols.specs.Names.{def}
use Rattle.wl_symbols.specs.declared.units.WasmGcUnit.TheVariants.{DefinedFunction}
use Rattle.wl_symbols.specs.Input.{Input, keeps}
use Rattle.wl_bind.specs.FunctionSymbols.{fun}
use Rattle.wl_bind.specs.FunctionSpace.{FunctionEntry, FunctionOf, function_space, local_functions}
use Rattle.wl_bind.specs.GlobalSpace.{GlobalEntry, GlobalOf, global_space, local_globals}
use Rattle.wl_bind.specs.OutputTypes.{AreTypeIndices}
use Rattle.wl_bind.specs.Parts.{AreIndicesOf, ArePlacesOf, AreRows}
use Rattle.wl_symbols.specs.Relocations.{object_relocations}
use Rattle.wl_bind.specs.Sameness.{same_definition, same_pair}
use Rattle.wl_bind.specs.Scan.{got_mem, got_func}
use Rattle.wl_bind.specs.declared.binding.FunctionTarget.{FunctionTarget}
use Rattle.wl_bind.specs.declared.binding.FunctionTarget.TheVariants.{Defined, Made, Host, Stub}
use Rattle.wl_bind.specs.declared.binding.GlobalTarget.TheVariants.{GotMem, GotFunc}
use Rattle.wl_index.specs.declared.index_map.WasmObjectIndexMap.{WasmObjectIndexMap}
use Rattle.wl_symbols.specs.declared.relocated.Relocated.{Relocated}

-- ---- function symbols

-- the output has the function; all but what objects define is there because something asks for it
abbrev pub is_kept_target : Input → FunctionTarget → Bool
is_kept_target input (Defined object function) = keeps input object (DefinedFunction function)
is_kept_target input (Made m) = true
is_kept_target input (Host object slot) = true
is_kept_target input (Stub object slot) = true

-- the entry of a function, where the output has it
abbrev pub entry_of : Input → FunctionTarget → Option FunctionEntry
entry_of input target = if is_kept_target input target then Some (FunctionOf target) else None

-- the entry of the function that the symbol of those numbers leads to
abbrev pub symbol_function : Input → ℕ → ℕ → Option FunctionEntry
symbol_function input object number = option_and_then (entry_of input) (fun input object number)

-- those of the symbols of an object
abbrev pub symbol_functions : Input → ℕ → Object → List (Option FunctionEntry)
symbol_functions input object o =
    map (symbol_function input object) (range_with_len 0 (length o.symbols))

-- ---- symbols whose address or slot a global holds

-- the relocation names the symbol of that number by the number of a global
abbrev pub is_global_of : ℕ → Relocated → Bool
is_global_of number r = is_global_index r.relocation.ty && (r.relocation.index == number)

-- a kept relocation of the object does
abbrev pub has_global : Input → ℕ → Object → ℕ → Bool
has_global input object o number =
    list_any (is_global_of number) (object_relocations input.live object o)

-- the symbol of those numbers is data
abbrev pub is_data_symbol : Input → ℕ → ℕ → Bool
is_data_symbol input object number =
    option_map_or (λ (s : LinkedSymbol). is_data s.kind)
    (symbol_in input.link.objects object number)
    false

-- the place of its definition in the GOT list of data
abbrev pub mem_place : Input → ℕ → ℕ → Option ℕ
mem_place input object number =
    position (same_definition (def input.link object number)) (got_mem input)

-- the global of a data symbol that a kept relocation names so
abbrev pub got_mem_global : Input → ℕ → Object → ℕ → Option GlobalEntry
got_mem_global input object o number =
    if is_data_symbol input object number && has_global input object o number
    then option_map (λ place. GlobalOf (GotMem place)) (mem_place input object number) else None

-- those of the symbols of an object
abbrev pub got_mem_globals : Input → ℕ → Object → List (Option GlobalEntry)
got_mem_globals input object o =
    map (got_mem_global input object o) (range_with_len 0 (length o.symbols))

-- the place of its definition, with the function that it leads to, in the GOT list of functions
abbrev pub func_place : Input → ℕ → ℕ → Option ℕ
func_place input object number =
    option_and_then
    (λ (f : FunctionTarget). position (same_pair (def input.link object number, f))
    (got_func input))
    (fun input object number)

-- the global of a function symbol that a kept relocation names so
abbrev pub got_func_global : Input → ℕ → Object → ℕ → Option GlobalEntry
got_func_global input object o number =
    if has_global input object o number
    then option_map (λ place. GlobalOf (GotFunc place)) (func_place input object number) else None

-- those of the symbols of an object
abbrev pub got_func_globals : Input → ℕ → Object → List (Option GlobalEntry)
got_func_globals input object o =
    map (got_func_global input object o) (range_with_len 0 (length o.symbols))

-- ---- maps

-- the map of an object: the indices of its types, functions and globals, of what its function
-- symbols lead to, and of the globals of its data and function symbols; what goes by the places of
-- data is still empty
pub record IsIndexMap (input : Input) (object : ℕ) (o : Object) (m : WasmObjectIndexMap)
    : Type 0 where
  pub types : AreTypeIndices input object o m.type_indices
  pub functions : AreIndicesOf (function_space input) (local_functions input object o)
      m.function_indices
  pub globals : AreIndicesOf (global_space input) (local_globals input object o) m.global_indices
  pub segments : m.segment_indices ≡ []
  pub addresses : m.data_addresses ≡ []
  pub redirects : ArePlacesOf (function_space input) (symbol_functions input object o)
      m.function_symbol_redirects
  pub got_mem : ArePlacesOf (global_space input) (got_mem_globals input object o) m.got_mem_globals
  pub got_func : ArePlacesOf (global_space input) (got_func_globals input object o)
      m.got_func_globals

-- those of all objects
abbrev pub AreIndexMaps : Input → List WasmObjectIndexMap → Type 0
AreIndexMaps input maps = AreRows (IsIndexMap input) 0 input.link.objects maps
