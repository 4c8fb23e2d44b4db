-- What each section holds, or what is wrong with it (core specification, "Sections"; object file
-- linking, version 2).
use Rattle.std.specs.Prelude.{◌≡◌, ◌⊎◌, ◌≤◌, ◌+◌, ℕ, Bool, true, false, List, [], ◌∷◌, length}
use Rattle.wl_bytes.specs.declared.reader.TheConstants.{MAX_LEN}
use Rattle.std.specs.List.{list_any}
use Rattle.wl_module.specs.declared.section_kind.SectionKind.{SectionKind}
use Rattle.wl_module.specs.declared.section_kind.SectionKind.TheVariants as kind
use Rattle.wl_bytes.specs.declared.read_error.Form.TheVariants as form
use Rattle.wl_bytes.specs.declared.read_error.ReadError.{ReadError}
use Rattle.wl_bytes.specs.declared.read_error.ReadError.TheVariants.{Malformed, Unsupported}
use Rattle.wl_bytes.specs.declared.read_error.Why.TheVariants.{Repeated}
use Rattle.wl_module.specs.Sections.{Section}
use Rattle.wl_module.specs.Types.{AreTypes, TypesFault}
use Rattle.wl_module.specs.Imports.{Imported, PlacedImported, is_memory, ArePlacedImports, ImportsFault}
use Rattle.wl_module.specs.Bodies.{AreIndices, IndicesFault, AreBodies, BodiesFault}
use Rattle.wl_module.specs.Memories.{AreMemories, MemoriesFault, IsDataCount, DataCountFault}
use Rattle.wl_module.specs.Globals.{AreGlobals, GlobalsFault}
use Rattle.wl_module.specs.Exports.{AreExports, ExportsFault}
use Rattle.wl_module.specs.Segments.{AreTargeted, SegmentsFault}
use Rattle.wl_custom.specs.Debug.{debug_of}
use Rattle.wl_custom.specs.Features.{AreFeatures, FeaturesFault}
use Rattle.wl_custom.specs.Linking.{IsLinking, LinkingFault}
use Rattle.wl_custom.specs.Relocations.{IsRelocSection, RelocSectionFault}
use Rattle.wl_linking.specs.Targets.{custom_kind, numbered_verdict}
use Rattle.wl_linking.specs.Parts.{join, part_of}
use Rattle.wl_linking.specs.declared.kinds.CustomKind.{CustomKind}
use Rattle.wl_linking.specs.declared.kinds.CustomKind.TheVariants as custom
use Rattle.wl_custom.specs.declared.linking.Linking.{Linking as LinkingHeld}
use Rattle.wl_linking.specs.declared.parts.Parts.{Parts}
use Rattle.wl_linking.specs.declared.section.SectionItems.{SectionItems}
use Rattle.wl_linking.specs.declared.section.SectionItems.TheVariants.{Types, Imports, Functions, Memories, Globals, Exports, DataCount, Code, Data, Linking, Reloc, Features, Debug, Nothing}

-- a memory is imported
abbrev pub has_memory : List Imported → Bool
has_memory imports = list_any (λ (i : Imported). is_memory i.entity) imports

-- how many bytes of the object lie before the payload of a section
abbrev pub base_of : Section → ℕ
base_of s = s.header.payload_range.0

-- ---- the linking section

-- the first linking section, with this in it
abbrev pub LinkingItems : Parts → Section → LinkingHeld → List ℕ → Type 0
LinkingItems before s linking payload =
    (before.has_linking ≡ false) × IsLinking (base_of s) linking payload

-- one came before, or the first one is at fault
abbrev pub LinkingItemsFault : Parts → Section → ReadError → List ℕ → Type 0
LinkingItemsFault before s e payload = ((before.has_linking ≡ true) × (e ≡ Malformed Repeated))
    ⊎ ((before.has_linking ≡ false) × LinkingFault (base_of s) e payload)

-- ---- a section, among all sections, after those with some items

-- a section that holds what its payload spells
abbrev pub Holding : {X : Type 0} → (X → SectionItems) → (X → List ℕ → Type 0) → SectionItems
    → List ℕ → Type 0
Holding {X} make spells items payload = (x : X) × (items ≡ make x) × spells x payload

-- an import section: the imports, and where its payload begins
abbrev pub imports_at : Section → List PlacedImported → SectionItems
imports_at s imports = Imports imports (base_of s)

-- what a section is read under: all sections, and what those before it hold
pub record SectionContext : Type 0 where
  pub sections : List Section
  pub before : Parts

-- the two together
abbrev pub section_context : List Section → Parts → SectionContext
section_context sections before = record { sections = sections; before = before }

-- what a custom section holds
abbrev pub HoldsCustom : CustomKind → SectionContext → Section → SectionItems → List ℕ → Type 0
HoldsCustom custom.Linking context s = Holding Linking (LinkingItems context.before s)
HoldsCustom custom.Reloc context s =
    Holding Reloc (IsRelocSection (numbered_verdict context.sections context.before))
HoldsCustom custom.Features context s = Holding Features AreFeatures
HoldsCustom custom.Debug context s = λ items payload. items ≡ Debug (debug_of s.name payload)
HoldsCustom custom.Other context s = λ items payload. items ≡ Nothing

-- what a section of this kind holds; elements are skipped
abbrev pub HoldsItems : SectionKind → SectionContext → Section → SectionItems → List ℕ → Type 0
HoldsItems kind.Custom context s = HoldsCustom (custom_kind s.name) context s
HoldsItems kind.Type context s = Holding Types AreTypes
HoldsItems kind.Import context s = Holding (imports_at s) ArePlacedImports
HoldsItems kind.Function context s = Holding Functions AreIndices
HoldsItems kind.Table context s = λ items payload. ⊥
HoldsItems kind.Memory context s =
    Holding Memories (AreMemories (has_memory context.before.imports))
HoldsItems kind.Global context s = Holding Globals AreGlobals
HoldsItems kind.Export context s = Holding Exports AreExports
HoldsItems kind.Start context s = λ items payload. ⊥
HoldsItems kind.Element context s = λ items payload. items ≡ Nothing
HoldsItems kind.Code context s = Holding Code AreBodies
HoldsItems kind.Data context s = Holding Data AreTargeted
HoldsItems kind.DataCount context s = Holding DataCount IsDataCount
HoldsItems kind.Tag context s = λ items payload. ⊥

-- what is wrong with a custom section
abbrev pub CustomFault : CustomKind → SectionContext → Section → ReadError → List ℕ → Type 0
CustomFault custom.Linking context s = LinkingItemsFault context.before s
CustomFault custom.Reloc context s =
    RelocSectionFault (numbered_verdict context.sections context.before)
CustomFault custom.Features context s = FeaturesFault
CustomFault custom.Debug context s = λ e payload. ⊥
CustomFault custom.Other context s = λ e payload. ⊥

-- what is wrong with a section of this kind
abbrev pub ItemsFault : SectionKind → SectionContext → Section → ReadError → List ℕ → Type 0
ItemsFault kind.Custom context s = CustomFault (custom_kind s.name) context s
ItemsFault kind.Type context s = TypesFault
ItemsFault kind.Import context s = ImportsFault
ItemsFault kind.Function context s = IndicesFault
ItemsFault kind.Table context s = λ e payload. e ≡ Unsupported form.TableDef
ItemsFault kind.Memory context s = MemoriesFault (has_memory context.before.imports)
ItemsFault kind.Global context s = GlobalsFault
ItemsFault kind.Export context s = ExportsFault
ItemsFault kind.Start context s = λ e payload. e ≡ Unsupported form.Start
ItemsFault kind.Element context s = λ e payload. ⊥
ItemsFault kind.Code context s = BodiesFault
ItemsFault kind.Data context s = SegmentsFault
ItemsFault kind.DataCount context s = DataCountFault
ItemsFault kind.Tag context s = λ e payload. e ≡ Unsupported form.Tag

-- a sound custom section
abbrev pub IsSoundCustom : List Section → Parts → Section → SectionItems → Type 0
IsSoundCustom sections before s items =
    HoldsCustom (custom_kind s.name) (section_context sections before) s items s.payload

-- a custom section at fault
abbrev pub IsFaultyCustom : List Section → Parts → Section → ReadError → Type 0
IsFaultyCustom sections before s e =
    CustomFault (custom_kind s.name) (section_context sections before) s e s.payload

-- a sound section
abbrev pub IsSound : List Section → Parts → Section → SectionItems → Type 0
IsSound sections before s items =
    HoldsItems s.kind (section_context sections before) s items s.payload

-- a section at fault
abbrev pub IsFaulty : List Section → Parts → Section → ReadError → Type 0
IsFaulty sections before s e = ItemsFault s.kind (section_context sections before) s e s.payload

-- the payload lies within the limit
abbrev pub EndsWithin : Section → Type 0
EndsWithin s = base_of s + length s.payload ≤ MAX_LEN

-- ---- all sections

-- each section is sound after those before it, in file order, from some items to those that there
-- are then
abbrev pub AreSound : List Section → Parts → List Section → Parts → Type 0
AreSound sections before [] after = before ≡ after
AreSound sections before (s ∷ rest) after =
    (items : SectionItems) × IsSound sections before s items
    × AreSound sections (join before (part_of items)) rest after

-- some sections are sound, and the next one is at fault
abbrev pub AreFaulty : List Section → Parts → List Section → ReadError → Type 0
AreFaulty sections before [] e = ⊥
AreFaulty sections before (s ∷ rest) e = IsFaulty sections before s e
    ⊎ ((items : SectionItems) × IsSound sections before s items
    × AreFaulty sections (join before (part_of items)) rest e)
