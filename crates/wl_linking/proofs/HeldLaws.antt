-- What sound sections hold, whatever their kinds: a law of the items of each section is one of those of all sections.
use Rattle.std.proofs.Common.{◌≡◌, ℕ, Bool, List, [], ◌∷◌, ◌++◌, map, Result, refl, sym, subst}
use Rattle.std.specs.List.{AllByRecursion}
use Rattle.wl_module.specs.Types.{AreTypes}
use Rattle.wl_module.specs.Imports.{ArePlacedImports}
use Rattle.wl_module.specs.Bodies.{AreIndices, AreBodies}
use Rattle.wl_module.specs.Memories.{AreMemories, IsDataCount}
use Rattle.wl_module.specs.Globals.{AreGlobals}
use Rattle.wl_module.specs.Exports.{AreExports}
use Rattle.wl_module.specs.Segments.{AreTargeted}
use Rattle.wl_module.specs.Sections.{Section, SectionStands}
use Rattle.wl_bytes.specs.declared.read_error.ReadError.{ReadError}
use Rattle.wl_module.specs.declared.section_kind.SectionKind.{SectionKind}
use Rattle.wl_module.specs.declared.section_kind.SectionKind.TheVariants as kind
use Rattle.wl_custom.specs.Features.{AreFeatures}
use Rattle.wl_custom.specs.Linking.{IsLinking}
use Rattle.wl_linking.specs.Parts.{join, part_of}
use Rattle.wl_custom.specs.Relocations.{IsRelocSection}
use Rattle.wl_linking.specs.Targets.{custom_kind, numbered_verdict}
use Rattle.wl_linking.specs.Sections.{SectionContext, section_context, has_memory, base_of, LinkingItems, Holding, imports_at, HoldsCustom, HoldsItems, AreSound}
use Rattle.wl_linking.specs.declared.kinds.CustomKind.{CustomKind}
use Rattle.wl_linking.specs.declared.kinds.CustomKind.TheVariants as custom
use Rattle.wl_linking.specs.declared.parts.Parts.{Parts}
use Rattle.wl_custom.specs.declared.relocations.Target.{Target}
use Rattle.wl_linking.specs.declared.section.SectionItems.{SectionItems}
use Rattle.wl_linking.specs.declared.section.SectionItems.TheVariants.{Types, Imports, Functions, Memories, Globals, Exports, DataCount, Code, Data, Linking, Reloc, Features, Debug, Nothing}
use Rattle.wl_lists.proofs.Places.{all_append}

-- ---- one section

-- what a section of a kind holds is what its payload spells, and is held by sections of that kind alone
abbrev pub Spelled : SectionKind → Section → SectionItems → List ℕ → Type 0
Spelled k s (Types types) payload = (k ≡ kind.Type) × AreTypes types payload
Spelled k s (Imports imports base) payload = (k ≡ kind.Import) × (base ≡ base_of s) × ArePlacedImports imports payload
Spelled k s (Functions functions) payload = (k ≡ kind.Function) × AreIndices functions payload
Spelled k s (Memories memories) payload = (k ≡ kind.Memory) × (imported : Bool) × AreMemories imported memories payload
Spelled k s (Globals globals) payload = (k ≡ kind.Global) × AreGlobals globals payload
Spelled k s (Exports exports) payload = (k ≡ kind.Export) × AreExports exports payload
Spelled k s (DataCount count) payload = (k ≡ kind.DataCount) × IsDataCount count payload
Spelled k s (Code bodies) payload = (k ≡ kind.Code) × AreBodies bodies payload
Spelled k s (Data segments) payload = (k ≡ kind.Data) × AreTargeted segments payload
Spelled k s (Linking linking) payload = (k ≡ kind.Custom) × IsLinking (base_of s) linking payload
Spelled k s (Reloc held) payload = (k ≡ kind.Custom) × (verdict : ℕ → Result Target ReadError) × IsRelocSection verdict held payload
Spelled k s (Features features) payload = (k ≡ kind.Custom) × AreFeatures features payload
Spelled k s (Debug section) payload = k ≡ kind.Custom
Spelled k s Nothing payload = Unit {0}

-- what is spelled as one thing
spelled_as : {X : Type 0} (k : SectionKind) (s : Section) (make : X → SectionItems) (spells : X → List ℕ → Type 0) (items : SectionItems) (payload : List ℕ)
    → ((x : X) → spells x payload → Spelled k s (make x) payload) → Holding make spells items payload → Spelled k s items payload
spelled_as k s make spells items payload step (x, is, h) = subst (λ (y : SectionItems). Spelled k s y payload) (sym is) (step x h)

spelled_custom : (c : CustomKind) (context : SectionContext) (s : Section) (items : SectionItems) (payload : List ℕ) → HoldsCustom c context s items payload → Spelled kind.Custom s items payload
spelled_custom custom.Linking context s items payload h = spelled_as kind.Custom s Linking (LinkingItems context.before s) items payload (λ x is. (refl, is.1)) h
spelled_custom custom.Reloc context s items payload h = let verdict = numbered_verdict context.sections context.before in spelled_as kind.Custom s Reloc (IsRelocSection verdict) items payload (λ x is. (refl, verdict, is)) h
spelled_custom custom.Features context s items payload h = spelled_as kind.Custom s Features AreFeatures items payload (λ x is. (refl, is)) h
spelled_custom custom.Debug context s items payload is = subst (λ (y : SectionItems). Spelled kind.Custom s y payload) (sym is) refl
spelled_custom custom.Other context s items payload is = subst (λ (y : SectionItems). Spelled kind.Custom s y payload) (sym is) tt

-- what a section holds is spelled
pub spelled : (k : SectionKind) (context : SectionContext) (s : Section) (items : SectionItems) (payload : List ℕ) → HoldsItems k context s items payload → Spelled k s items payload
spelled kind.Custom context s items payload h = spelled_custom (custom_kind s.name) context s items payload h
spelled kind.Type context s items payload h = spelled_as kind.Type s Types AreTypes items payload (λ x is. (refl, is)) h
spelled kind.Import context s items payload h = spelled_as kind.Import s (imports_at s) ArePlacedImports items payload (λ x is. (refl, refl, is)) h
spelled kind.Function context s items payload h = spelled_as kind.Function s Functions AreIndices items payload (λ x is. (refl, is)) h
spelled kind.Table context s items payload h = absurd h
spelled kind.Memory context s items payload h = let imported = has_memory context.before.imports in spelled_as kind.Memory s Memories (AreMemories imported) items payload (λ x is. (refl, imported, is)) h
spelled kind.Global context s items payload h = spelled_as kind.Global s Globals AreGlobals items payload (λ x is. (refl, is)) h
spelled kind.Export context s items payload h = spelled_as kind.Export s Exports AreExports items payload (λ x is. (refl, is)) h
spelled kind.Start context s items payload h = absurd h
spelled kind.Element context s items payload is = subst (λ (y : SectionItems). Spelled kind.Element s y payload) (sym is) tt
spelled kind.Code context s items payload h = spelled_as kind.Code s Code AreBodies items payload (λ x is. (refl, is)) h
spelled kind.Data context s items payload h = spelled_as kind.Data s Data AreTargeted items payload (λ x is. (refl, is)) h
spelled kind.DataCount context s items payload h = spelled_as kind.DataCount s DataCount IsDataCount items payload (λ x is. (refl, is)) h
spelled kind.Tag context s items payload h = absurd h

-- ---- all sections

-- the items of each section that stands in the bytes have a property
abbrev pub HaveInEach : {X : Type 0} → (Parts → List X) → (X → Type 0) → List ℕ → Type 0
HaveInEach list P bytes = (k : SectionKind) (s : Section) (items : SectionItems) → SectionStands bytes s → Spelled k s items s.payload → AllByRecursion P (list (part_of items))

-- then those of all sections have it, where those before had it
pub all_held : {X : Type 0} (list : Parts → List X) (P : X → Type 0) (bytes : List ℕ) → ((a b : Parts) → list (join a b) ≡ list a ++ list b) → HaveInEach list P bytes
    → (sections : List Section) (before : Parts) (ss : List Section) (after : Parts) → AllByRecursion (SectionStands bytes) ss → AreSound sections before ss after → AllByRecursion P (list before) → AllByRecursion P (list after)
all_held {X} list P bytes joins each sections before [] after placed is h = subst (λ (p : Parts). AllByRecursion P (list p)) is h
all_held {X} list P bytes joins each sections before (s ∷ ss) after placed (items, sound, rest) h =
    let more = all_append P (list before) (list (part_of items)) h (each s.kind s items placed.0 (spelled s.kind (section_context sections before) s items s.payload sound)) in
    all_held list P bytes joins each sections (join before (part_of items)) ss after placed.1 rest (subst (λ (xs : List X). AllByRecursion P xs) (sym (joins before (part_of items))) more)

-- what follows from a property that all have is one that all have
pub all_follow : {X : Type 0} (P Q : X → Type 0) (xs : List X) → ((x : X) → P x → Q x) → AllByRecursion P xs → AllByRecursion Q xs
all_follow P Q [] f h = tt
all_follow P Q (x ∷ xs) f h = (f x h.0, all_follow P Q xs f h.1)

-- the same where another thing is made of each
pub all_mapped : {X Y : Type 0} (f : X → Y) (P : X → Type 0) (Q : Y → Type 0) (xs : List X) → ((x : X) → P x → Q (f x)) → AllByRecursion P xs → AllByRecursion Q (map f xs)
all_mapped f P Q [] step h = tt
all_mapped f P Q (x ∷ xs) step h = (step x h.0, all_mapped f P Q xs step h.1)
