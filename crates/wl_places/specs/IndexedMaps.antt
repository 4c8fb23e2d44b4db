-- Where the things of each object stand in the output, its segments and data among them.
use Rattle.std.specs.Prelude.{◌≡◌, ℕ, List}
use Rattle.wl_linking.specs.Object.{Object}
use Rattle.wl_index.specs.declared.index_map.WasmObjectIndexMap.{WasmObjectIndexMap}
use Rattle.wl_bind.specs.FunctionSpace.{function_space, local_functions}
use Rattle.wl_bind.specs.GlobalSpace.{global_space, local_globals}
use Rattle.wl_bind.specs.IndexMaps.{symbol_functions, got_mem_globals, got_func_globals}
use Rattle.wl_symbols.specs.Input.{Input}
use Rattle.wl_bind.specs.OutputTypes.{AreTypeIndices}
use Rattle.wl_bind.specs.Parts.{AreRows, AreIndicesOf, ArePlacesOf}
use Rattle.wl_places.specs.Addresses.{AreSegmentIndices, symbol_addresses}
use Rattle.wl_places.specs.declared.placing.Placing.{Placing}

-- the map of an object: the indices of its types, functions, globals and segments, where its data
-- symbols lie, the indices of what its function symbols lead to, and of the globals of its data and
-- function symbols
pub record IsWholeMap (input : Input) (g : Placing) (object : ℕ) (o : Object)
    (m : WasmObjectIndexMap) : Type 0 where
  pub types : AreTypeIndices input object o m.type_indices
  pub functions : AreIndicesOf (function_space input) (local_functions input object o)
      m.function_indices
  pub globals : AreIndicesOf (global_space input) (local_globals input object o) m.global_indices
  pub segments : AreSegmentIndices input g object o m.segment_indices
  pub addresses : m.data_addresses ≡ symbol_addresses input g object o
  pub redirects : ArePlacesOf (function_space input) (symbol_functions input object o)
      m.function_symbol_redirects
  pub got_mem : ArePlacesOf (global_space input) (got_mem_globals input object o) m.got_mem_globals
  pub got_func : ArePlacesOf (global_space input) (got_func_globals input object o)
      m.got_func_globals

-- those of all objects
abbrev pub AreWholeMaps : Input → Placing → List WasmObjectIndexMap → Type 0
AreWholeMaps input g maps = AreRows (IsWholeMap input g) 0 input.link.objects maps

-- they have the indices of types
abbrev pub HaveTypeIndices : Input → List WasmObjectIndexMap → Type 0
HaveTypeIndices input maps =
    AreRows (λ object o (m : WasmObjectIndexMap). AreTypeIndices input object o m.type_indices) 0
    input.link.objects maps
