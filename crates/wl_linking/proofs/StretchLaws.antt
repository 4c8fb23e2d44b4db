-- Names, expressions, bodies and the bytes of segments stand in the object's bytes.
use Rattle.std.proofs.Common.{◌≡◌, ℕ, ◌+◌, List, ◌++◌, length, refl, sym, subst}
use Rattle.std.specs.List.{AllByRecursion}
use Rattle.wl_bytes.specs.Items.{IsName}
use Rattle.wl_module.specs.Imports.{PlacedImported}
use Rattle.wl_module.specs.Segments.{Targeted}
use Rattle.wl_module.proofs.SectionLaws.{module_stands}
use Rattle.wl_module.specs.Places.{StandsAt, IsPart, PartsStand, ImportStands, PlacedImportStands, ExportStands, GlobalStands, BodyStands, TargetedStands}
use Rattle.wl_module.proofs.PlaceLaws.{before_stands, behind_stands, listed_stand, placed_imports_stand, exports_stand, globals_stand, bodies_stand, targeted_stand}
use Rattle.wl_custom.specs.Infos.{SegmentInfo, IsInfo, AreInfos}
use Rattle.wl_custom.specs.Features.{Feature, IsFeature, AreFeatures}
use Rattle.wl_custom.specs.Linking.{infos_in as infos_of_part}
use Rattle.wl_linking.specs.Parts.{no_parts, join}
use Rattle.wl_linking.specs.Sections.{base_of}
use Rattle.wl_linking.specs.Object.{Object}
use Rattle.wl_linking.specs.Fitting.{IsObject}
use Rattle.wl_linking.specs.Stretches.{BodyIsPart, PayloadIsPart, InfoStands, FeatureStands, PartsStandIn}
use Rattle.wl_linking.specs.declared.parts.Parts.{Parts}
use Rattle.wl_custom.specs.declared.linking.Linking.{Linking as LinkingHeld}
use Rattle.wl_custom.specs.declared.linking.Subsection.{Subsection}
use Rattle.wl_custom.specs.declared.linking.SubsectionKind.TheVariants as part
use Rattle.wl_linking.specs.declared.section.SectionItems.TheVariants.{Imports, Globals, Exports, Code, Data, Linking, Features}
use Rattle.wl_linking.proofs.HeldLaws.{HaveInEach, all_held, all_follow, all_mapped}
use Rattle.wl_linking.proofs.NameLaws.{inside_stands, HaveInEachPart, linking_has}

-- ---- parts of a payload that stands in the bytes

part_within : (bytes payload text : List ℕ) (base : ℕ) → StandsAt bytes payload base → IsPart payload text → IsPart bytes text
part_within bytes payload text base there p = (base + p.0, inside_stands bytes payload text base p.0 there p.1)

-- a name follows its length
name_is_part : (bytes : List ℕ) (place : ℕ) (name text : List ℕ) → IsName place name text → StandsAt bytes text place → IsPart bytes name
name_is_part bytes place name text (head, parts, count, utf8) there = (place + length head, behind_stands bytes text head name place parts there)

info_stands : (bytes : List ℕ) (place : ℕ) (i : SegmentInfo) (text : List ℕ) → IsInfo place i text → StandsAt bytes text place → InfoStands bytes i
info_stands bytes place i text (front, back, parts, name, others) there = name_is_part bytes place i.name front name (before_stands bytes text front back place parts there)

infos_stand : PartsStand InfoStands AreInfos
infos_stand = listed_stand InfoStands IsInfo info_stands

feature_stands : (bytes : List ℕ) (place : ℕ) (f : Feature) (text : List ℕ) → IsFeature place f text → StandsAt bytes text place → FeatureStands bytes f
feature_stands bytes place f text (front, back, parts, prefix, name) there =
    name_is_part bytes (place + length front) f.name back name (behind_stands bytes text front back place parts there)

features_stand : PartsStand FeatureStands AreFeatures
features_stand = listed_stand FeatureStands IsFeature feature_stands

-- ---- the items of each section

imports_in_each : (bytes : List ℕ) → HaveInEach (λ p. p.imports) (ImportStands bytes) bytes
imports_in_each bytes k s (Imports imports base) there h =
    all_mapped (λ (i : PlacedImported). i.import) (PlacedImportStands s.payload) (ImportStands bytes) imports (λ i p. record {
      origin = part_within bytes s.payload i.import.origin (base_of s) there.payload.0 p.origin;
      name = part_within bytes s.payload i.import.name (base_of s) there.payload.0 (i.name_offset, p.name);
    }) (placed_imports_stand imports s.payload h.2)
imports_in_each bytes k s _ there h = tt

globals_in_each : (bytes : List ℕ) → HaveInEach (λ p. p.globals) (GlobalStands bytes) bytes
globals_in_each bytes k s (Globals globals) there h =
    all_follow (GlobalStands s.payload) (GlobalStands bytes) globals (λ g p. part_within bytes s.payload g.body (base_of s) there.payload.0 p) (globals_stand globals s.payload h.1)
globals_in_each bytes k s _ there h = tt

exports_in_each : (bytes : List ℕ) → HaveInEach (λ p. p.exports) (ExportStands bytes) bytes
exports_in_each bytes k s (Exports exports) there h =
    all_follow (ExportStands s.payload) (ExportStands bytes) exports (λ x p. part_within bytes s.payload x.name (base_of s) there.payload.0 p) (exports_stand exports s.payload h.1)
exports_in_each bytes k s _ there h = tt

bodies_in_each : (bytes : List ℕ) → HaveInEach (λ p. p.bodies) (BodyIsPart bytes) bytes
bodies_in_each bytes k s (Code bodies) there h =
    all_follow (BodyStands s.payload) (BodyIsPart bytes) bodies (λ b p. part_within bytes s.payload b.bytes (base_of s) there.payload.0 (b.code_offset, p)) (bodies_stand bodies s.payload h.1)
bodies_in_each bytes k s _ there h = tt

segments_in_each : (bytes : List ℕ) → HaveInEach (λ p. p.segments) (PayloadIsPart bytes) bytes
segments_in_each bytes k s (Data segments) there h =
    all_mapped (λ (t : Targeted). t.segment) (TargetedStands s.payload) (PayloadIsPart bytes) segments (λ t p.
    let at = t.segment.section_offset in
    part_within bytes s.payload t.segment.payload (base_of s) there.payload.0 (at + length p.head, behind_stands s.payload (p.head ++ t.segment.payload) p.head t.segment.payload at refl p.there))
    (targeted_stand segments s.payload h.1)
segments_in_each bytes k s _ there h = tt

infos_in_each_part : (bytes : List ℕ) → HaveInEachPart infos_of_part (InfoStands bytes) bytes
infos_in_each_part bytes base part.SegmentInfo s payload there held =
    subst (λ (x : Subsection). AllByRecursion (InfoStands bytes) (infos_of_part x)) held.1
    (all_follow (InfoStands payload) (InfoStands bytes) held.0 (λ i p. part_within bytes payload i.name base there p) (infos_stand held.0 payload held.2))
infos_in_each_part bytes base part.InitFuncs s payload there held = subst (λ (x : Subsection). AllByRecursion (InfoStands bytes) (infos_of_part x)) held.1 tt
infos_in_each_part bytes base part.SymbolTable s payload there held = subst (λ (x : Subsection). AllByRecursion (InfoStands bytes) (infos_of_part x)) held.1 tt
infos_in_each_part bytes base part.Other s payload there held = rw held tt

infos_in_each : (bytes : List ℕ) → HaveInEach (λ p. p.segment_infos) (InfoStands bytes) bytes
infos_in_each bytes k s (Linking linking) there h = linking_has infos_of_part (λ (l : LinkingHeld). l.segment_infos) (InfoStands bytes) bytes (infos_in_each_part bytes) (λ xs. refl) s.payload (base_of s) linking there.payload.0 h.1
infos_in_each bytes k s _ there h = tt

features_in_each : (bytes : List ℕ) → HaveInEach (λ p. p.features) (FeatureStands bytes) bytes
features_in_each bytes k s (Features features) there h =
    all_follow (FeatureStands s.payload) (FeatureStands bytes) features (λ f p. part_within bytes s.payload f.name (base_of s) there.payload.0 p) (features_stand features s.payload h.1)
features_in_each bytes k s _ there h = tt

-- ---- an object

pub parts_stand_in : (bytes : List ℕ) (o : Object) → IsObject o bytes → PartsStandIn bytes o
parts_stand_in bytes o h = subst (PartsStandIn bytes) (sym h.items.items) (record {
  imports = all (λ p. p.imports) (ImportStands bytes) (λ a b. refl) (imports_in_each bytes) tt;
  globals = all (λ p. p.globals) (GlobalStands bytes) (λ a b. refl) (globals_in_each bytes) tt;
  exports = all (λ p. p.exports) (ExportStands bytes) (λ a b. refl) (exports_in_each bytes) tt;
  bodies = all (λ p. p.bodies) (BodyIsPart bytes) (λ a b. refl) (bodies_in_each bytes) tt;
  segments = all (λ p. p.segments) (PayloadIsPart bytes) (λ a b. refl) (segments_in_each bytes) tt;
  segment_infos = all (λ p. p.segment_infos) (InfoStands bytes) (λ a b. refl) (infos_in_each bytes) tt;
  features = all (λ p. p.features) (FeatureStands bytes) (λ a b. refl) (features_in_each bytes) tt;
})
  where
    all : {X : Type 0} (list : Parts → List X) (P : X → Type 0) → ((a b : Parts) → list (join a b) ≡ list a ++ list b) → HaveInEach list P bytes → AllByRecursion P (list no_parts) → AllByRecursion P (list h.parts)
    all list P joins each none = all_held list P bytes joins each h.sections no_parts h.sections h.parts (module_stands bytes h.sections h.framed) h.sound none
