-- What the sections of an object hold, put together.
use Rattle.std.specs.Prelude.{◌≤◌, ℕ, ◌||◌, Bool, true, false, List, [], ◌∷◌, ◌++◌, map, Option}
use Rattle.wl_bytes.specs.declared.reader.TheConstants.{MAX_LEN}
use Rattle.std.specs.List.{AllByRecursion}
use Rattle.wl_module.specs.declared.imports.ExternalKind.TheVariants.{Func, Global}
use Rattle.wl_module.specs.Imports.{PlacedImported, plain_imports}
use Rattle.wl_module.specs.Segments.{Targeted, plain_segments}
use Rattle.wl_linking.specs.Slots.{slots_of}
use Rattle.wl_linking.specs.SlotsReading.{IsNamedWithin}
use Rattle.wl_linking.specs.declared.parts.Parts.{Parts}
use Rattle.wl_custom.specs.declared.relocations.RelocHeld.{RelocHeld}
use Rattle.wl_custom.specs.declared.relocations.Target.{Target}
use Rattle.wl_custom.specs.declared.relocations.Target.TheVariants as target
use Rattle.wl_linking.specs.declared.section.SectionItems.{SectionItems}
use Rattle.wl_linking.specs.declared.section.SectionItems.TheVariants.{Types, Imports, Functions, Memories, Globals, Exports, DataCount, Code, Data, Linking, Reloc, Features, Debug, Nothing}

-- what no section holds
abbrev pub no_parts : Parts
no_parts = record {
  types = [];
  imports = [];
  function_names = [];
  global_names = [];
  functions = [];
  memories = [];
  globals = [];
  exports = [];
  data_counts = [];
  bodies = [];
  segments = [];
  segment_memories = [];
  segment_infos = [];
  init_funcs = [];
  symbols = [];
  reloc_sections = [];
  code_relocations = [];
  data_relocations = [];
  features = [];
  debug_sections = [];
  has_linking = false;
  has_code_relocations = false;
  has_data_relocations = false;
}

-- what some sections hold, and others after them
abbrev pub join : Parts → Parts → Parts
join a b = record {
  types = a.types ++ b.types;
  imports = a.imports ++ b.imports;
  function_names = a.function_names ++ b.function_names;
  global_names = a.global_names ++ b.global_names;
  functions = a.functions ++ b.functions;
  memories = a.memories ++ b.memories;
  globals = a.globals ++ b.globals;
  exports = a.exports ++ b.exports;
  data_counts = a.data_counts ++ b.data_counts;
  bodies = a.bodies ++ b.bodies;
  segments = a.segments ++ b.segments;
  segment_memories = a.segment_memories ++ b.segment_memories;
  segment_infos = a.segment_infos ++ b.segment_infos;
  init_funcs = a.init_funcs ++ b.init_funcs;
  symbols = a.symbols ++ b.symbols;
  reloc_sections = a.reloc_sections ++ b.reloc_sections;
  code_relocations = a.code_relocations ++ b.code_relocations;
  data_relocations = a.data_relocations ++ b.data_relocations;
  features = a.features ++ b.features;
  debug_sections = a.debug_sections ++ b.debug_sections;
  has_linking = b.has_linking || a.has_linking;
  has_code_relocations = b.has_code_relocations || a.has_code_relocations;
  has_data_relocations = b.has_data_relocations || a.has_data_relocations;
}

-- the memory that each segment goes into when the module starts, if it does
abbrev pub segment_memories_of : List Targeted → List (Option ℕ)
segment_memories_of = map (λ (t : Targeted). t.memory_index)

-- an import section, where so many bytes of the object lie before its payload: the imports, and the
-- names that symbols may take
abbrev pub imports_part : List PlacedImported → ℕ → Parts
imports_part imports base = record no_parts {
  imports = plain_imports imports;
  function_names = slots_of Func base imports;
  global_names = slots_of Global base imports;
}

-- what is only for code
abbrev pub code_of : {X : Type 0} → Target → List X → List X
code_of target.Code xs = xs
code_of target.Data xs = []
code_of target.Debug xs = []

-- what is only for data
abbrev pub data_of : {X : Type 0} → Target → List X → List X
data_of target.Code xs = []
data_of target.Data xs = xs
data_of target.Debug xs = []

-- relocations of code
abbrev pub is_code_target : Target → Bool
is_code_target target.Code = true
is_code_target target.Data = false
is_code_target target.Debug = false

-- relocations of data
abbrev pub is_data_target : Target → Bool
is_data_target target.Code = false
is_data_target target.Data = true
is_data_target target.Debug = false

-- a relocation section, by what it is for
abbrev pub reloc_part : RelocHeld → Parts
reloc_part held = record no_parts {
  reloc_sections = held.section ∷ [];
  code_relocations = code_of held.target held.section.relocations;
  data_relocations = data_of held.target held.section.relocations;
  has_code_relocations = is_code_target held.target;
  has_data_relocations = is_data_target held.target;
}

-- what one section holds
abbrev pub part_of : SectionItems → Parts
part_of (Types types) = record no_parts { types = types }
part_of (Imports imports base) = imports_part imports base
part_of (Functions functions) = record no_parts { functions = functions }
part_of (Memories memories) = record no_parts { memories = memories }
part_of (Globals globals) = record no_parts { globals = globals }
part_of (Exports exports) = record no_parts { exports = exports }
part_of (DataCount count) = record no_parts { data_counts = count ∷ [] }
part_of (Code bodies) = record no_parts { bodies = bodies }
part_of (Data segments) =
    record no_parts {
      segments = plain_segments segments;
      segment_memories = segment_memories_of
          segments;
    }
part_of (Linking linking) = record no_parts {
  segment_infos = linking.segment_infos;
  init_funcs = linking.init_funcs;
  symbols = linking.symbols;
  has_linking = true;
}
part_of (Reloc held) = reloc_part held
part_of (Features features) = record no_parts { features = features }
part_of (Debug section) = record no_parts { debug_sections = section ∷ [] }
part_of Nothing = no_parts

-- the names of imports stand within the limit
abbrev pub AreNamedWithin : SectionItems → Type 0
AreNamedWithin (Imports imports base) = (base ≤ MAX_LEN) × AllByRecursion IsNamedWithin imports
AreNamedWithin _ = Unit {0}
