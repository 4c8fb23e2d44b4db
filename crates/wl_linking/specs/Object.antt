-- What a relocatable object holds (core specification, "Modules"; object file linking, version 2).
use Rattle.std.specs.Prelude.{ℕ, List, Option}
use Rattle.wl_module.specs.declared.sections.SectionHeader.{SectionHeader}
use Rattle.wl_module.specs.declared.limits.MemoryType.{MemoryType}
use Rattle.wl_module.specs.Types.{FunctionType}
use Rattle.wl_module.specs.Imports.{Imported}
use Rattle.wl_module.specs.Globals.{DefinedGlobal}
use Rattle.wl_module.specs.Exports.{Exported}
use Rattle.wl_module.specs.Bodies.{Body}
use Rattle.wl_module.specs.Segments.{Segment}
use Rattle.wl_custom.specs.Infos.{SegmentInfo}
use Rattle.wl_custom.specs.Symbols.{Symbol}
use Rattle.wl_custom.specs.Features.{Feature}
use Rattle.wl_custom.specs.Debug.{DebugInput}
use Rattle.wl_custom.specs.declared.infos.WasmInitFunc.{WasmInitFunc}
use Rattle.wl_custom.specs.declared.relocations.WasmRelocation.{WasmRelocation}
use Rattle.wl_custom.specs.declared.relocations.WasmRelocSection.{WasmRelocSection}
use Rattle.wl_linking.specs.declared.sites.Site.{Site}

-- What an object holds, in file order: its bytes, and the items of its sections. For each segment
-- there is the memory that it goes into when the module starts, if it does. Symbols have the names
-- that they take from imports. Relocations are in order of their fields, each with the place of its
-- field.
pub record Object : Type 0 where
  pub bytes : List ℕ
  pub sections : List SectionHeader
  pub types : List FunctionType
  pub imports : List Imported
  pub functions : List ℕ
  pub memories : List MemoryType
  pub globals : List DefinedGlobal
  pub exports : List Exported
  pub data_counts : List ℕ
  pub bodies : List Body
  pub segments : List Segment
  pub segment_memories : List (Option ℕ)
  pub segment_infos : List SegmentInfo
  pub init_funcs : List WasmInitFunc
  pub symbols : List Symbol
  pub reloc_sections : List WasmRelocSection
  pub features : List Feature
  pub debug_sections : List DebugInput
  pub code_relocations : List WasmRelocation
  pub code_sites : List Site
  pub data_relocations : List WasmRelocation
  pub data_sites : List Site
