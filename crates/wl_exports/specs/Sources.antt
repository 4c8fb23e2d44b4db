-- What exports are made from, and what they lead to.
use Rattle.std.specs.Prelude.{◌≡◌, ◌≤◌, ℕ, List, length, Some, slice_get}
use Rattle.std.specs.List.{AllZip}
use Rattle.wl_linking.specs.Object.{Object}
use Rattle.wl_module.specs.Exports.{Exported}
use Rattle.wl_module.specs.declared.imports.ExternalKind.TheVariants.{Func, Global, Table, Memory}
use Rattle.wl_index.specs.declared.index.TheConstants.{MAX_ENTRIES}
use Rattle.wl_index.specs.declared.index_map.WasmObjectIndexMap.{WasmObjectIndexMap}
use Rattle.wl_features.specs.Taken.{AreTaken}
use Rattle.wl_bind.specs.FunctionSpace.{function_space, local_functions}
use Rattle.wl_bind.specs.GlobalSpace.{global_space, local_globals}
use Rattle.wl_bind.specs.Parts.{AreRows, AreIndicesOf}
use Rattle.wl_symbols.specs.Input.{Input}
use Rattle.wl_bind.specs.MadeIndices.{AreMadeIndices}
use Rattle.wl_bind.specs.References.{IsSettled}
use Rattle.wl_exports.specs.Exports.{ExportEntry, Entity, OfFunction, OfGlobal, OfTable, OfMemory, exports}
use Rattle.wl_exports.specs.declared.sources.ExportSources.{ExportSources}

-- the map of an object has the indices of its functions and of its globals
pub record HasIndices (input : Input) (object : ℕ) (o : Object) (m : WasmObjectIndexMap)
    : Type 0 where
  pub functions : AreIndicesOf (function_space input) (local_functions input object o)
      m.function_indices
  pub globals : AreIndicesOf (global_space input) (local_globals input object o) m.global_indices

-- so do those of all objects
abbrev pub HaveIndices : Input → List WasmObjectIndexMap → Type 0
HaveIndices input maps = AreRows (HasIndices input) 0 input.link.objects maps

-- the sources are those of one link, and there is room in the spaces
pub record AreSources (s : ExportSources) : Type 0 where
  pub settled : IsSettled s.input.now
  pub args : s.args.now ≡ s.input.now.link.args
  pub maps : HaveIndices s.input.now s.maps.now
  pub indices : AreMadeIndices s.input.now s.indices.now
  pub features : AreTaken s.input.now.link s.features.now
  pub functions : length (function_space s.input.now) ≤ MAX_ENTRIES
  pub globals : length (global_space s.input.now) ≤ MAX_ENTRIES

-- ---- exports by their indices

-- the export is of that kind, and stands for that thing; the one table and the one memory have the
-- index 0
abbrev pub IsOf : Input → Entity → Exported → Type 0
IsOf input (OfFunction f) x = (x.kind ≡ Func) × (slice_get (function_space input) x.index ≡ Some f)
IsOf input (OfGlobal g) x = (x.kind ≡ Global) × (slice_get (global_space input) x.index ≡ Some g)
IsOf input OfTable x = (x.kind ≡ Table) × (x.index ≡ 0)
IsOf input OfMemory x = (x.kind ≡ Memory) × (x.index ≡ 0)

-- an export before any is wrapped
pub record IsPlainExport (input : Input) (e : ExportEntry) (x : Exported) : Type 0 where
  pub name : x.name ≡ e.name
  pub leads : IsOf input e.entity x

-- those of the link
abbrev pub ArePlainExports : Input → List Exported → Type 0
ArePlainExports input xs = AllZip (IsPlainExport input) (exports input) xs
