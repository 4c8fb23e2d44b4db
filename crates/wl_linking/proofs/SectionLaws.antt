-- A section holds one thing, or has one fault.
use Rattle.std.proofs.Common.{◌≡◌, ◌⊎◌, ℕ, List, [], ◌∷◌, Bool, true, false, Ok, refl, sym, ap, subst, ◌∙◌, inl, inr}
use Rattle.wl_module.specs.Sections.{Section}
use Rattle.wl_module.specs.declared.section_kind.SectionKind.{SectionKind}
use Rattle.wl_module.specs.declared.section_kind.SectionKind.TheVariants as kind
use Rattle.wl_bytes.specs.declared.read_error.Form.TheVariants as form
use Rattle.wl_bytes.specs.declared.read_error.ReadError.{ReadError}
use Rattle.wl_bytes.specs.declared.read_error.ReadError.TheVariants.{Malformed, Unsupported}
use Rattle.wl_bytes.specs.declared.read_error.Why.TheVariants.{Repeated}
use Rattle.wl_module.specs.Types.{AreTypes, TypesFault}
use Rattle.wl_module.specs.Types.{types_of}
use Rattle.wl_module.specs.Imports.{ArePlacedImports, ImportsFault, placed_imports_of}
use Rattle.wl_module.specs.Bodies.{AreIndices, IndicesFault, AreBodies, BodiesFault}
use Rattle.wl_module.specs.Bodies.{indices_of, bodies_of}
use Rattle.wl_module.specs.Memories.{AreMemories, MemoriesFault, memories_of, IsDataCount, DataCountFault, data_count_of}
use Rattle.wl_module.specs.Globals.{AreGlobals, GlobalsFault, globals_of}
use Rattle.wl_module.specs.Exports.{AreExports, ExportsFault, exports_of}
use Rattle.wl_module.specs.Segments.{AreTargeted, SegmentsFault, targeted_of}
use Rattle.wl_module.proofs.TypeLaws.{types_reading}
use Rattle.wl_module.proofs.ImportLaws.{placed_imports_reading, exports_reading}
use Rattle.wl_module.proofs.BodyLaws.{indices_reading, bodies_reading}
use Rattle.wl_module.proofs.GlobalLaws.{globals_reading, memories_reading, data_count_reading}
use Rattle.wl_module.proofs.SegmentLaws.{targeted_reading}
use Rattle.wl_custom.specs.Debug.{debug_of}
use Rattle.wl_custom.specs.Features.{AreFeatures, FeaturesFault, features_of}
use Rattle.wl_custom.specs.Linking.{IsLinking, LinkingFault}
use Rattle.wl_custom.specs.Relocations.{IsRelocSection, RelocSectionFault, reloc_section_of}
use Rattle.wl_linking.specs.Parts.{join, part_of}
use Rattle.wl_linking.specs.Targets.{custom_kind, numbered_verdict}
use Rattle.wl_linking.specs.Sections.{SectionContext, section_context, has_memory, base_of, LinkingItems, LinkingItemsFault, Holding, imports_at, HoldsCustom, CustomFault, HoldsItems, ItemsFault, IsSoundCustom, IsFaultyCustom, IsSound, IsFaulty, AreSound, AreFaulty}
use Rattle.wl_linking.specs.declared.kinds.CustomKind.{CustomKind}
use Rattle.wl_linking.specs.declared.kinds.CustomKind.TheVariants as custom
use Rattle.wl_bytes.specs.Outcome.{HasCause, Fails, AreAlternatives}
use Rattle.wl_linking.specs.declared.parts.Parts.{Parts}
use Rattle.wl_custom.specs.declared.relocations.RelocHeld.{RelocHeld}
use Rattle.wl_custom.proofs.Exact.{failed}
use Rattle.wl_custom.specs.declared.linking.Linking.{Linking as LinkingHeld}
use Rattle.wl_linking.specs.declared.section.SectionItems.{SectionItems}
use Rattle.wl_linking.specs.declared.section.SectionItems.TheVariants.{Types, Functions, Memories, Globals, Exports, DataCount, Code, Data, Linking, Reloc, Features, Debug, Nothing}
use Rattle.wl_bytes.proofs.ListLaws.{whole_alternatives}
use Rattle.wl_custom.proofs.FeatureLaws.{features_reading}
use Rattle.wl_custom.proofs.LinkingLaws.{linking_exact}
use Rattle.wl_custom.proofs.RelocationLaws.{reloc_section_reading}

-- ---- the first linking section

both : (b : Bool) {P : Type 0} → b ≡ true → b ≡ false → P
both true t f = absurd cc
both false t f = absurd cc

first_either : (before : Parts) (s : Section) (payload : List ℕ) (linking : LinkingHeld) (e : ReadError) → LinkingItems before s linking payload → LinkingItemsFault before s e payload → ⊥
first_either before s payload linking e h (inl f) = both before.has_linking f.0 h.0
first_either before s payload linking e h (inr f) = (linking_exact (base_of s)).no_fault payload linking e h.1 f.1

first_one_fault : (before : Parts) (s : Section) (payload : List ℕ) (e d : ReadError) → LinkingItemsFault before s e payload → LinkingItemsFault before s d payload → e ≡ d
first_one_fault before s payload e d (inl f) (inl g) = f.1 ∙ sym g.1
first_one_fault before s payload e d (inl f) (inr g) = both before.has_linking f.0 g.0
first_one_fault before s payload e d (inr f) (inl g) = both before.has_linking g.0 f.0
first_one_fault before s payload e d (inr f) (inr g) = (linking_exact (base_of s)).one_fault payload e d f.1 g.1

first_some : (before : Parts) (s : Section) (payload : List ℕ) → ((linking : LinkingHeld) × LinkingItems before s linking payload) ⊎ ((e : ReadError) × LinkingItemsFault before s e payload)
first_some before s payload = by_seen before.has_linking refl ((linking_exact (base_of s)).some payload)
  where
    by_seen : (b : Bool) → before.has_linking ≡ b → ((linking : LinkingHeld) × IsLinking (base_of s) linking payload) ⊎ ((e : ReadError) × LinkingFault (base_of s) e payload) → ((linking : LinkingHeld) × LinkingItems before s linking payload) ⊎ ((e : ReadError) × LinkingItemsFault before s e payload)
    by_seen true is h = inr (Malformed Repeated, inl (is, refl))
    by_seen false is (inl h) = inl (h.0, (is, h.1))
    by_seen false is (inr f) = inr (f.0, inr (is, f.1))

first_exact : (before : Parts) (s : Section) → AreAlternatives (LinkingItems before s) (LinkingItemsFault before s)
first_exact before s = record { some = first_some before s; one_value = λ payload x y h k. (linking_exact (base_of s)).one_value payload x y h.1 k.1; no_fault = first_either before s; one_fault = first_one_fault before s }

-- ---- a section

holding_exact : {X : Type 0} (make : X → SectionItems) (spells : X → List ℕ → Type 0) (faults : ReadError → List ℕ → Type 0) → AreAlternatives spells faults → AreAlternatives (Holding make spells) faults
holding_exact {X} make spells faults law = record {
  some = λ payload. held (law.some payload);
  one_value = λ payload x y s t. s.1 ∙ ap make (law.one_value payload s.0 t.0 s.2 t.2) ∙ sym t.1;
  no_fault = λ payload x e s f. law.no_fault payload s.0 e s.2 f;
  one_fault = law.one_fault;
}
  where
    held : {payload : List ℕ} → ((x : X) × spells x payload) ⊎ ((e : ReadError) × faults e payload) → ((items : SectionItems) × Holding make spells items payload) ⊎ ((e : ReadError) × faults e payload)
    held (inl h) = inl (make h.0, (h.0, refl, h.1))
    held (inr f) = inr f

abbrev Never : SectionItems → List ℕ → Type 0
Never section payload = ⊥

abbrev NoneAtFault : ReadError → List ℕ → Type 0
NoneAtFault e payload = ⊥

abbrev Is : ReadError → ReadError → List ℕ → Type 0
Is known e payload = e ≡ known

foreign_exact : (known : ReadError) → AreAlternatives Never (Is known)
foreign_exact known = record { some = λ payload. inr (known, refl); one_value = λ payload x y s t. absurd s; no_fault = λ payload x e s f. s; one_fault = λ payload e d f g. f ∙ sym g }

-- a section that holds what its payload gives
fixed_exact : (items_of : List ℕ → SectionItems) → AreAlternatives (λ items payload. items ≡ items_of payload) NoneAtFault
fixed_exact items_of = record { some = λ payload. inl (items_of payload, refl); one_value = λ payload x y s t. s ∙ sym t; no_fault = λ payload x e s f. f; one_fault = λ payload e d f g. absurd f }

custom_exact : (c : CustomKind) (context : SectionContext) (s : Section) → AreAlternatives (HoldsCustom c context s) (CustomFault c context s)
custom_exact custom.Linking context s = holding_exact Linking (LinkingItems context.before s) (LinkingItemsFault context.before s) (first_exact context.before s)
custom_exact custom.Reloc context s =
    let verdict = numbered_verdict context.sections context.before in
    holding_exact Reloc (IsRelocSection verdict) (RelocSectionFault verdict) (whole_alternatives (IsRelocSection verdict) (RelocSectionFault verdict) (reloc_section_of verdict) (reloc_section_reading verdict))
custom_exact custom.Features context s = holding_exact Features AreFeatures FeaturesFault (whole_alternatives AreFeatures FeaturesFault features_of features_reading)
custom_exact custom.Debug context s = fixed_exact (λ payload. Debug (debug_of s.name payload))
custom_exact custom.Other context s = fixed_exact (λ payload. Nothing)

items_exact : (k : SectionKind) (context : SectionContext) (s : Section) → AreAlternatives (HoldsItems k context s) (ItemsFault k context s)
items_exact kind.Custom context s = custom_exact (custom_kind s.name) context s
items_exact kind.Type context s = holding_exact Types AreTypes TypesFault (whole_alternatives AreTypes TypesFault types_of types_reading)
items_exact kind.Import context s = holding_exact (imports_at s) ArePlacedImports ImportsFault (whole_alternatives ArePlacedImports ImportsFault placed_imports_of placed_imports_reading)
items_exact kind.Function context s = holding_exact Functions AreIndices IndicesFault (whole_alternatives AreIndices IndicesFault indices_of indices_reading)
items_exact kind.Table context s = foreign_exact (Unsupported form.TableDef)
items_exact kind.Memory context s =
    let imported = has_memory context.before.imports in
    holding_exact Memories (AreMemories imported) (MemoriesFault imported) (whole_alternatives (AreMemories imported) (MemoriesFault imported) (memories_of imported) (memories_reading imported))
items_exact kind.Global context s = holding_exact Globals AreGlobals GlobalsFault (whole_alternatives AreGlobals GlobalsFault globals_of globals_reading)
items_exact kind.Export context s = holding_exact Exports AreExports ExportsFault (whole_alternatives AreExports ExportsFault exports_of exports_reading)
items_exact kind.Start context s = foreign_exact (Unsupported form.Start)
items_exact kind.Element context s = fixed_exact (λ payload. Nothing)
items_exact kind.Code context s = holding_exact Code AreBodies BodiesFault (whole_alternatives AreBodies BodiesFault bodies_of bodies_reading)
items_exact kind.Data context s = holding_exact Data AreTargeted SegmentsFault (whole_alternatives AreTargeted SegmentsFault targeted_of targeted_reading)
items_exact kind.DataCount context s = holding_exact DataCount IsDataCount DataCountFault (whole_alternatives IsDataCount DataCountFault data_count_of data_count_reading)
items_exact kind.Tag context s = foreign_exact (Unsupported form.Tag)

-- ---- all sections

-- all are sound, or one is at fault
pub sections_some : (sections : List Section) (before : Parts) (ss : List Section) → ((after : Parts) × AreSound sections before ss after) ⊎ ((e : ReadError) × AreFaulty sections before ss e)
sections_some sections before [] = inl (before, refl)
sections_some sections before (s ∷ ss) = by_first ((items_exact s.kind (section_context sections before) s).some s.payload) (λ items. sections_some sections (join before (part_of items)) ss)
  where
    by_rest : (items : SectionItems) → IsSound sections before s items → ((after : Parts) × AreSound sections (join before (part_of items)) ss after) ⊎ ((e : ReadError) × AreFaulty sections (join before (part_of items)) ss e)
        → ((after : Parts) × AreSound sections before (s ∷ ss) after) ⊎ ((e : ReadError) × AreFaulty sections before (s ∷ ss) e)
    by_rest items here (inl t) = inl (t.0, (items, here, t.1))
    by_rest items here (inr f) = inr (f.0, inr (items, here, f.1))

    by_first : ((items : SectionItems) × IsSound sections before s items) ⊎ ((e : ReadError) × IsFaulty sections before s e)
        → ((items : SectionItems) → ((after : Parts) × AreSound sections (join before (part_of items)) ss after) ⊎ ((e : ReadError) × AreFaulty sections (join before (part_of items)) ss e))
        → ((after : Parts) × AreSound sections before (s ∷ ss) after) ⊎ ((e : ReadError) × AreFaulty sections before (s ∷ ss) e)
    by_first (inl h) rest = by_rest h.0 h.1 (rest h.0)
    by_first (inr f) rest = inr (f.0, inl f.1)

pub sections_one : (sections : List Section) (before : Parts) (ss : List Section) (a b : Parts) → AreSound sections before ss a → AreSound sections before ss b → a ≡ b
sections_one sections before [] a b h k = sym h ∙ k
sections_one sections before (s ∷ ss) a b (x, here, h) (y, here', k) =
    let first = (items_exact s.kind (section_context sections before) s).one_value s.payload x y here here' in
    sections_one sections (join before (part_of x)) ss a b h (subst (λ (z : SectionItems). AreSound sections (join before (part_of z)) ss b) (sym first) k)

pub sections_either : (sections : List Section) (before : Parts) (ss : List Section) (after : Parts) (e : ReadError) → AreSound sections before ss after → AreFaulty sections before ss e → ⊥
sections_either sections before [] after e h f = f
sections_either sections before (s ∷ ss) after e (x, here, h) (inl f) = (items_exact s.kind (section_context sections before) s).no_fault s.payload x e here f
sections_either sections before (s ∷ ss) after e (x, here, h) (inr (y, here', f)) =
    let first = (items_exact s.kind (section_context sections before) s).one_value s.payload x y here here' in
    sections_either sections (join before (part_of x)) ss after e h (subst (λ (z : SectionItems). AreFaulty sections (join before (part_of z)) ss e) (sym first) f)

pub sections_one_fault : (sections : List Section) (before : Parts) (ss : List Section) (e d : ReadError) → AreFaulty sections before ss e → AreFaulty sections before ss d → e ≡ d
sections_one_fault sections before [] e d f g = absurd f
sections_one_fault sections before (s ∷ ss) e d (inl f) (inl g) = (items_exact s.kind (section_context sections before) s).one_fault s.payload e d f g
sections_one_fault sections before (s ∷ ss) e d (inl f) (inr (y, here, g)) = absurd ((items_exact s.kind (section_context sections before) s).no_fault s.payload y e here f)
sections_one_fault sections before (s ∷ ss) e d (inr (x, here, f)) (inl g) = absurd ((items_exact s.kind (section_context sections before) s).no_fault s.payload x d here g)
sections_one_fault sections before (s ∷ ss) e d (inr (x, here, f)) (inr (y, here', g)) =
    let first = (items_exact s.kind (section_context sections before) s).one_value s.payload x y here here' in
    sections_one_fault sections (join before (part_of x)) ss e d f (subst (λ (z : SectionItems). AreFaulty sections (join before (part_of z)) ss d) (sym first) g)

-- ---- a relocation section

-- what is read of it is what it holds
pub reloc_sound : (sections : List Section) (before : Parts) (s : Section) (held : RelocHeld) → custom_kind s.name ≡ custom.Reloc → reloc_section_of (numbered_verdict sections before) s.payload ≡ Ok held → IsSoundCustom sections before s (Reloc held)
reloc_sound sections before s held is read = rw is (held, refl, (reloc_section_reading (numbered_verdict sections before)).found s.payload held read)

-- and what fails is its fault
pub reloc_fails : (sections : List Section) (before : Parts) (s : Section) (e : ReadError) → custom_kind s.name ≡ custom.Reloc → Fails e (reloc_section_of (numbered_verdict sections before) s.payload) → HasCause (IsFaultyCustom sections before s) e
reloc_fails sections before s e is = failed (IsFaultyCustom sections before s) (reloc_section_of (numbered_verdict sections before) s.payload) (λ d f. rw is ((reloc_section_reading (numbered_verdict sections before)).fault s.payload d f)) e
