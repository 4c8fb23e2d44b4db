-- The plan of the output module, in five parts: each is fixed by the link, by what is kept, and by
-- the parts before it.
use Rattle.std.specs.Prelude.{◌≡◌, ℕ, List, false, length, MatchOption, Some, slice_get}
use Rattle.wl_data.specs.Sizes.{HasSectionSize, AreBodiesText, segment_count, all_encoded_bytes}
use Rattle.wl_bind.specs.FunctionSpace.{InitMemory, function_space}
use Rattle.wl_symbols.specs.Input.{Input}
use Rattle.wl_bind.specs.Made.{has_init_memory, has_shared_tls}
use Rattle.wl_bind.specs.OutputTypes.{output_types}
use Rattle.wl_exports.specs.Wrapped.{AreOutputExports}
use Rattle.wl_plan.specs.Bodies.{AreBodies}
use Rattle.wl_plan.specs.Extras.{AreOutputFeatures, output_debug_sections}
use Rattle.wl_plan.specs.Fixups.{AreFixups}
use Rattle.wl_plan.specs.Functions.{AreOutputFunctions}
use Rattle.wl_plan.specs.Globals.{ArePlannedGlobals}
use Rattle.wl_plan.specs.Imports.{AreImports, own_memory}
use Rattle.wl_places.specs.IndexedMaps.{AreWholeMaps}
use Rattle.wl_places.specs.Placing.{IsPlacing}
use Rattle.wl_plan.specs.Table.{output_table, AreElements, function_slots}
use Rattle.wl_output.specs.declared.fixups.Fixup.{Fixup}
use Rattle.wl_plan.specs.declared.layout.LinkPlan.{LinkPlan}
use Rattle.wl_plan.specs.declared.layout.WasmLayout.{WasmLayout}
use Rattle.wl_places.specs.declared.placing.Placing.{Placing}

-- ---- bindings and entities

-- the table with its functions and their slots, and the function that runs at the start
pub record HasEntities (input : Input) (layout : WasmLayout) : Type 0 where
  pub table : layout.table ≡ output_table input
  pub elements : AreElements input layout.element_functions
  pub slots : layout.function_table_slots ≡ function_slots input
  pub start : MatchOption layout.start_function
      (has_init_memory input ≡ false)
      (λ index. slice_get (function_space input) index ≡ Some InitMemory)

-- ---- places

-- where the data of all objects lies, and the memory
pub record HasPlaces (input : Input) (g : Placing) (layout : WasmLayout) : Type 0 where
  pub data_layouts : layout.object_data_layouts ≡ g.places.layouts
  pub memory : layout.memory ≡ own_memory input g
  pub memory_base : layout.memory_base ≡ g.memory_base
  pub tls_base : layout.tls_base ≡ g.places.tls_base
  pub tls_size : layout.tls_size ≡ g.places.tls_size
  pub tls_align : layout.tls_align ≡ g.places.tls_align
  pub shared_tls : layout.shared_memory_tls ≡ has_shared_tls input
  pub data_end : layout.data_end ≡ g.places.data_end
  pub data_size : HasSectionSize (segment_count g.places.layouts)
      (all_encoded_bytes g.places.layouts)
      layout.data_section_size

-- ---- types, spaces and exports

-- each type once; what is imported; the functions and globals in the order of their spaces, each
-- with its type or with what it starts with; where the things of each object stand; what others may
-- refer to
pub record HasSpaces (input : Input) (g : Placing) (layout : WasmLayout) : Type 0 where
  pub types : layout.output_types ≡ output_types input
  pub imports : AreImports input (output_types input) g layout.imports
  pub functions : AreOutputFunctions input (output_types input) layout.function_type_indices
  pub globals : ArePlannedGlobals input g layout.globals
  pub maps : AreWholeMaps input g layout.object_index_maps
  pub exports : AreOutputExports input layout.exports

-- ---- bodies

-- the size of a section of these bodies
abbrev pub HasCodeSize : WasmLayout → Type 0
HasCodeSize layout =
    (text : List ℕ) × AreBodiesText layout.function_bodies text
    × HasSectionSize (length layout.function_bodies) (length text) layout.code_section_size

-- a body for each function, and the features and the debug sections beside them
pub record HasBodies (input : Input) (g : Placing) (layout : WasmLayout) : Type 0 where
  pub bodies : AreBodies input g layout.function_bodies
  pub size : HasCodeSize layout
  pub features : AreOutputFeatures input.link layout.features
  pub debug_sections : layout.debug_sections ≡ output_debug_sections input.link

-- ---- the plan

-- the plan of a link in which these units are kept
pub record IsPlan (input : Input) (plan : LinkPlan) : Type 0 where
  pub placing : Placing
  pub placed : IsPlacing input placing
  pub entities : HasEntities input plan.layout
  pub places : HasPlaces input placing plan.layout
  pub spaces : HasSpaces input placing plan.layout
  pub fixups : AreFixups input placing plan.fixups
  pub bodies : HasBodies input placing plan.layout

-- the layout of that plan
abbrev pub IsLayout : Input → WasmLayout → Type 0
IsLayout input layout =
    (fixups : List Fixup) × IsPlan input (record { layout = layout; fixups = fixups })
