-- The parts of a layout, each by itself.
use Rattle.std.specs.Prelude.{ℕ, Bool, List, Option}
use Rattle.wl_module.specs.Bodies.{Body}
use Rattle.wl_module.specs.Exports.{Exported}
use Rattle.wl_module.specs.Types.{FunctionType}
use Rattle.wl_module.specs.declared.limits.MemoryType.{MemoryType}
use Rattle.wl_module.specs.declared.limits.TableType.{TableType}
use Rattle.wl_custom.specs.Debug.{DebugInput}
use Rattle.wl_data.specs.Segments.{SegmentLayout}
use Rattle.wl_index.specs.declared.index_map.WasmObjectIndexMap.{WasmObjectIndexMap}
use Rattle.wl_plan.specs.Origins.{PlannedFunction}
use Rattle.wl_plan.specs.PlannedImports.{PlannedImport}
use Rattle.wl_plan.specs.declared.layout.PlannedGlobal.{PlannedGlobal}
use Rattle.wl_plan.specs.declared.layout.WasmLayout.{WasmLayout}

-- the table, the functions in it, the slot of each function, and the function at the start
pub record Entities : Type 0 where
  pub table : Option TableType
  pub elements : List ℕ
  pub slots : List ℕ
  pub start : Option ℕ

-- where the data lies, the memory, the block of each thread, and the size of the data section
pub record Places : Type 0 where
  pub data_layouts : List (List SegmentLayout)
  pub memory : Option MemoryType
  pub memory_base : ℕ
  pub tls_base : ℕ
  pub tls_size : ℕ
  pub tls_align : ℕ
  pub shared_tls : Bool
  pub data_end : ℕ
  pub data_size : ℕ

-- types, imports, the functions and globals in their spaces, where the things of each object stand,
-- and the exports
pub record Spaces : Type 0 where
  pub types : List FunctionType
  pub imports : List PlannedImport
  pub functions : List PlannedFunction
  pub globals : List PlannedGlobal
  pub maps : List WasmObjectIndexMap
  pub exports : List Exported

-- the bodies and the size of their section, the features, and the debug sections
pub record Bodies : Type 0 where
  pub bodies : List Body
  pub code_size : ℕ
  pub features : List (List ℕ)
  pub debug_sections : List DebugInput

-- ---- of a layout

abbrev pub entities_of : WasmLayout → Entities
entities_of layout = record {
  table = layout.table;
  elements = layout.element_functions;
  slots = layout.function_table_slots;
  start = layout.start_function;
}

abbrev pub places_of : WasmLayout → Places
places_of layout = record {
  data_layouts = layout.object_data_layouts;
  memory = layout.memory;
  memory_base = layout.memory_base;
  tls_base = layout.tls_base;
  tls_size = layout.tls_size;
  tls_align = layout.tls_align;
  shared_tls = layout.shared_memory_tls;
  data_end = layout.data_end;
  data_size = layout.data_section_size;
}

abbrev pub spaces_of : WasmLayout → Spaces
spaces_of layout = record {
  types = layout.output_types;
  imports = layout.imports;
  functions = layout.function_type_indices;
  globals = layout.globals;
  maps = layout.object_index_maps;
  exports = layout.exports;
}

abbrev pub bodies_of : WasmLayout → Bodies
bodies_of layout = record {
  bodies = layout.function_bodies;
  code_size = layout.code_section_size;
  features = layout.features;
  debug_sections = layout.debug_sections;
}
