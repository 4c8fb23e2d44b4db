-- Each list of an object has at most as many items as the object has bytes.
use Rattle.std.proofs.Common.{◌≡◌, ℕ, suc, ◌+◌, ◌≤◌, cond, leb, true, false, Bool, List, [], ◌∷◌, ◌++◌, length, refl, sym, subst, ap, ◌∙◌, arith, length-append}
use Rattle.wl_bytes.specs.declared.reader.TheConstants.{MAX_LEN}
use Rattle.std.specs.List.{flat_map}
use Rattle.std.proofs.lemmas.List.{length-map}
use Rattle.std.proofs.lemmas.List.Sums.{count_by-le-length}
use Rattle.wl_bytes.specs.Cursor.{Cursor}
use Rattle.wl_bytes.specs.Parse.{Takes}
use Rattle.wl_module.specs.declared.section_kind.SectionKind.{SectionKind}
use Rattle.wl_bytes.specs.Lists.{Listed}
use Rattle.wl_bytes.specs.Chains.{Chain}
use Rattle.wl_module.specs.Sections.{Section, IsContentOf, IsModule, IsSection, next, magic, sections_in_turn}
use Rattle.wl_module.specs.SectionKinds.{is_custom}
use Rattle.wl_module.proofs.CountLaws.{number_bytes, name_bytes, items_few, listed_few, modules_few, types_few, placed_imports_few, indices_few, memories_few, globals_few, exports_few, bodies_few, targeted_few}
use Rattle.wl_custom.specs.Infos.{IsInfo, AreInfos, IsInit, AreInits}
use Rattle.wl_custom.specs.Symbols.{Symbol, IsSymbol, AreSymbols}
use Rattle.wl_custom.specs.Features.{IsFeature, AreFeatures}
use Rattle.wl_custom.specs.Linking.{IsHeld, IsSubsection, seen_after, subsection_kind, linking_of, IsLinking, infos_in as infos_of_one, inits_in as inits_of_one, table_in, subsections_in_turn}
use Rattle.wl_custom.specs.Relocations.{IsEntry, HoldsEntries, IsRelocSection}
use Rattle.wl_linking.specs.Parts.{no_parts, join, code_of, data_of, part_of}
use Rattle.wl_linking.specs.Sections.{base_of, AreSound, section_context}
use Rattle.wl_module.specs.Imports.{Imported}
use Rattle.wl_module.specs.declared.imports.ExternalKind.{ExternalKind}
use Rattle.wl_linking.specs.Spaces.{is_of_kind, count_imports}
use Rattle.wl_linking.specs.Object.{Object}
use Rattle.wl_linking.specs.Slots.{with_import_name}
use Rattle.wl_linking.specs.Sites.{AreInOrder}
use Rattle.wl_linking.specs.Fitting.{IsObject, IsWhole, HasFewItems}
use Rattle.wl_linking.specs.declared.parts.Parts.{Parts}
use Rattle.wl_custom.specs.declared.linking.Linking.{Linking as LinkingHeld}
use Rattle.wl_custom.specs.declared.linking.SeenSubsections.{SeenSubsections}
use Rattle.wl_custom.specs.declared.linking.Subsection.{Subsection}
use Rattle.wl_custom.specs.declared.linking.Subsection.TheVariants as held
use Rattle.wl_custom.specs.declared.linking.SubsectionKind.{SubsectionKind}
use Rattle.wl_custom.specs.declared.linking.SubsectionKind.TheVariants as part
use Rattle.wl_custom.specs.declared.relocations.RelocHeld.{RelocHeld}
use Rattle.wl_custom.specs.declared.relocations.Target.{Target}
use Rattle.wl_custom.specs.declared.relocations.Target.TheVariants as target
use Rattle.wl_custom.specs.declared.relocations.WasmRelocation.{WasmRelocation}
use Rattle.wl_linking.specs.declared.section.SectionItems.{SectionItems}
use Rattle.wl_linking.specs.declared.section.SectionItems.TheVariants.{Types, Imports, Functions, Memories, Globals, Exports, DataCount, Code, Data, Linking, Reloc, Features, Debug, Nothing}
use Rattle.wl_linking.proofs.HeldLaws.{Spelled, spelled}
use Rattle.wl_linking.proofs.OrderLaws.{order_one}
use Rattle.wl_linking.proofs.OrderExists.{put, ordered, order_exists}
use Rattle.wl_linking.proofs.WholeLaws.{as_many}

-- ---- the lists of a linking section

infos_few : (infos : List _) (payload : List ℕ) → AreInfos infos payload → length infos ≤ length payload
infos_few = listed_few IsInfo (λ place i text s. let some = name_bytes place i.name s.0 s.3 in omega (arith, some, ap length s.2, length-append s.0 s.1))

inits_few : (inits : List _) (payload : List ℕ) → AreInits inits payload → length inits ≤ length payload
inits_few = listed_few IsInit (λ place f text s. let some = number_bytes place f.priority s.0 s.3 in omega (arith, some, ap length s.2, length-append s.0 s.1))

symbols_few : (base : ℕ) (symbols : List Symbol) (payload : List ℕ) → AreSymbols base symbols payload → length symbols ≤ length payload
symbols_few base = listed_few (IsSymbol base) (λ place s text h. omega (arith, ap length h.1.3, ap length h.1.2, length-append h.1.0 h.1.1))

-- how many items a subsection holds
abbrev count_of_one : Subsection → ℕ
count_of_one (held.SegmentInfo infos) = length infos
count_of_one (held.InitFuncs functions) = length functions
count_of_one (held.SymbolTable symbols) = length symbols
count_of_one held.Skipped = 0

held_few : (base : ℕ) (k : SubsectionKind) (s : Subsection) (payload : List ℕ) → IsHeld base k s payload → count_of_one s ≤ length payload
held_few base part.SegmentInfo s payload (xs, is, h) = rw (← is) (infos_few xs payload h)
held_few base part.InitFuncs s payload (xs, is, h) = rw (← is) (inits_few xs payload h)
held_few base part.SymbolTable s payload (xs, is, h) = rw (← is) (symbols_few base xs payload h)
held_few base part.Other s payload is = rw is (omega arith)

-- how many items some subsections hold
abbrev count_of : LinkingHeld → ℕ
count_of linking = length linking.segment_infos + length linking.init_funcs + length linking.symbols

-- a subsection holds no more of them than it has bytes
subsection_few : (base : ℕ) (seen : SeenSubsections) (place : ℕ) (s : Subsection) (text : List ℕ) → IsSubsection base seen place s text → count_of_one s ≤ length text
subsection_few base seen place s text (p, t, is) =
    let size = t.4.4 in
    let here = size.4 in
    let stretch = here.4 in
    let few = held_few (base + p.1.1.1.0) (subsection_kind p.0) p.1.1.1.1.1 p.1.1.1.1.0 stretch.4.1 in
    let parts = ap length t.2 ∙ length-append t.0 t.1 in
    let judged = ap length t.4.2 ∙ length-append t.4.0 t.4.1 in
    let sized = ap length size.2 ∙ length-append size.0 size.1 in
    let placed = ap length here.2 ∙ length-append here.0 here.1 in
    let stretched = ap length stretch.2 ∙ length-append stretch.0 stretch.1 in
    rw (← is) (omega (arith, few, parts, judged, sized, placed, stretched, ap length stretch.3.0))

one_more : (s : Subsection) → length (infos_of_one s) + length (inits_of_one s) + length (table_in s) ≤ count_of_one s
one_more (held.SegmentInfo infos) = omega arith
one_more (held.InitFuncs functions) = omega arith
one_more (held.SymbolTable symbols) = omega arith
one_more held.Skipped = omega arith

subsections_few : (base : ℕ) (seen : SeenSubsections) (place : ℕ) (ss : List Subsection) (text : List ℕ) → Chain (subsections_in_turn base) seen place ss text → count_of (linking_of ss) ≤ length text
subsections_few base seen place [] text h = omega arith
subsections_few base seen place (s ∷ ss) text (front, back, parts, here, rest) =
    let first = subsection_few base seen place s front here in
    let others = subsections_few base (seen_after seen s) (place + length front) ss back rest in
    let infos = length-append (infos_of_one s) (flat_map infos_of_one ss) in
    let inits = length-append (inits_of_one s) (flat_map inits_of_one ss) in
    let symbols = length-append (table_in s) (flat_map table_in ss) in
    omega (arith, first, others, infos, inits, symbols, one_more s, ap length parts, length-append front back)

linking_few : (base : ℕ) (linking : LinkingHeld) (payload : List ℕ) → IsLinking base linking payload → count_of linking ≤ length payload
linking_few base linking payload (version, behind, t, (ss, last, (stand, end), is)) =
    let few = subsections_few base _ behind.position ss stand.text stand.spelled in
    let front = ap length t.parts ∙ length-append t.text behind.rest in
    let back = ap length stand.parts ∙ length-append stand.text last.rest in
    rw is (omega (arith, few, front, back))

-- ---- the entries of a relocation section

entries_few : (at : Target) (entries : List WasmRelocation) (from to : Cursor) → Takes (Listed (IsEntry at)) entries from to → length entries ≤ length from.rest
entries_few at entries from to t =
    let few = items_few (IsEntry at) (λ place r text h. omega (arith, ap length h.1.3, ap length h.1.2, length-append h.1.0 h.1.1)) _ entries t.spelled.1 t.spelled.4 in
    omega (arith, few, ap length t.spelled.2, length-append t.spelled.0 t.spelled.1, ap length t.parts, length-append t.text to.rest)

holds_few : (at : Target) (entries : List WasmRelocation) (from : Cursor) → HoldsEntries at entries from → length entries ≤ length from.rest
holds_few target.Code entries from (to, t, end) = entries_few target.Code entries from to t
holds_few target.Data entries from (to, t, end) = entries_few target.Data entries from to t
holds_few target.Debug entries from none = rw none (omega arith)

reloc_few : (verdict : ℕ → _) (held : RelocHeld) (payload : List ℕ) → IsRelocSection verdict held payload → length held.section.relocations ≤ length payload
reloc_few verdict held payload h =
    let few = holds_few held.target held.section.relocations h.behind h.entries in
    omega (arith, few, ap length h.number.parts, length-append h.number.text h.behind.rest)

-- ---- the items of a section

-- how many items there are, the memories of segments apart
abbrev size : Parts → ℕ
size p = length p.types + length p.imports + length p.functions + length p.memories + length p.globals + length p.exports + length p.data_counts
    + length p.bodies + length p.segments + length p.segment_infos + length p.init_funcs + length p.symbols + length p.reloc_sections
    + length p.code_relocations + length p.data_relocations + length p.features + length p.debug_sections

features_few : (features : List _) (payload : List ℕ) → AreFeatures features payload → length features ≤ length payload
features_few = listed_few IsFeature (λ place f text s. omega (arith, ap length s.3, ap length s.2, length-append s.0 s.1))

-- an entry is of code or of data, if not of neither
targeted_size : {X : Type 0} (t : Target) (xs : List X) → length (code_of t xs) + length (data_of t xs) ≤ length xs
targeted_size target.Code xs = omega arith
targeted_size target.Data xs = omega arith
targeted_size target.Debug xs = omega arith

-- no more than its payload has bytes, and one
size_within : (k : SectionKind) (s : Section) (items : SectionItems) → Spelled k s items s.payload → size (part_of items) ≤ suc (length s.payload)
size_within k s (Types types) h = let few = types_few types s.payload h.1 in omega arith
size_within k s (Imports imports base) h = let few = placed_imports_few imports s.payload h.2 in omega (arith, few, length-map imports (λ i. i.import))
size_within k s (Functions functions) h = let few = indices_few functions s.payload h.1 in omega arith
size_within k s (Memories memories) h = let few = memories_few h.1 memories s.payload h.2 in omega arith
size_within k s (Globals globals) h = let few = globals_few globals s.payload h.1 in omega arith
size_within k s (Exports exports) h = let few = exports_few exports s.payload h.1 in omega arith
size_within k s (DataCount count) h = omega arith
size_within k s (Code bodies) h = let few = bodies_few bodies s.payload h.1 in omega arith
size_within k s (Data segments) h = let few = targeted_few segments s.payload h.1 in omega (arith, few, length-map segments (λ t. t.segment))
size_within k s (Linking linking) h = let few = linking_few (base_of s) linking s.payload h.1 in omega arith
size_within k s (Reloc held) h = let few = reloc_few h.1 held s.payload h.2 in omega (arith, few, targeted_size held.target held.section.relocations)
size_within k s (Features features) h = let few = features_few features s.payload h.1 in omega arith
size_within k s (Debug section) h = omega arith
size_within k s Nothing h = omega arith

-- as many memories as segments
memories_within : (k : SectionKind) (s : Section) (items : SectionItems) → Spelled k s items s.payload → length (part_of items).segment_memories ≤ suc (length s.payload)
memories_within k s (Data segments) h = let few = targeted_few segments s.payload h.1 in omega (arith, few, length-map segments (λ t. t.memory_index))
memories_within k s _ h = omega arith

-- the payload of a section is shorter than the section by two bytes
payload_within : (last place : ℕ) (s : Section) (text : List ℕ) → IsSection last place s text → suc (suc (length s.payload)) ≤ length text
payload_within last place s text ((k, (n, x)), (front, back, parts, id, (head, content, parts', number, (len, may, is))), same) =
    let some = number_bytes (place + length front) n head number in
    rw (← same) (omega (arith, some, within (is_custom k) content is, ap length id, ap length parts, length-append front back, ap length parts', length-append head content))
  where
    within : (b : Bool) (text : List ℕ) → IsContentOf b k (place + length front + length head) x text → length x.payload ≤ length text
    within true text (h, whole, number', utf8, is') = omega (arith, ap length whole, length-append h (x.name ++ x.payload), length-append x.name x.payload)
    within false text is' = rw is' (omega arith)

-- ---- the items of all sections

-- a measure of what is held, of which a section has no more than its payload has bytes, and one
pub record Measures (measure : Parts → ℕ) : Type 0 where
  pub adds : (a b : Parts) → measure (join a b) ≡ measure a + measure b
  pub within : (k : SectionKind) (s : Section) (items : SectionItems) → Spelled k s items s.payload → measure (part_of items) ≤ suc (length s.payload)

-- is no more than all bytes
all_few : (measure : Parts → ℕ) → Measures measure → (sections : List Section) (before : Parts) (last place : ℕ) (ss : List Section) (text : List ℕ) (after : Parts) → Chain sections_in_turn last place ss text → AreSound sections before ss after
    → measure after ≤ measure before + length text
all_few measure law sections before last place [] text after chain is = rw (← is) (omega arith)
all_few measure law sections before last place (s ∷ ss) text after (front, back, parts, here, rest) (items, sound, more) =
    let first = law.within s.kind s items (spelled s.kind (section_context sections before) s items s.payload sound) in
    let others = all_few measure law sections (join before (part_of items)) (next last s) (place + length front) ss back after rest more in
    omega (arith, first, others, law.adds before (part_of items), payload_within last place s front here, ap length parts, length-append front back)

size_measures : Measures size
size_measures = record { adds = λ a b. simp length-append (omega arith); within = size_within }

memories_measure : Measures (λ p. length p.segment_memories)
memories_measure = record { adds = λ a b. length-append a.segment_memories b.segment_memories; within = memories_within }

-- ---- the lists of an object

length-put : (x : WasmRelocation) (ys : List WasmRelocation) → length (put x ys) ≡ suc (length ys)
length-put x [] = refl
length-put x (y ∷ ys) = by_test (leb x.offset y.offset) (length-put x ys)
  where
    by_test : (b : Bool) → length (put x ys) ≡ suc (length ys) → length (cond b (x ∷ y ∷ ys) (y ∷ put x ys)) ≡ suc (suc (length ys))
    by_test true more = refl
    by_test false more = ap suc more

length-ordered : (xs : List WasmRelocation) → length (ordered xs) ≡ length xs
length-ordered [] = refl
length-ordered (x ∷ xs) = length-put x (ordered xs) ∙ ap suc (length-ordered xs)

-- entries in order are as many as they are
length-in_order : (entries rs : List WasmRelocation) → AreInOrder entries rs → length rs ≡ length entries
length-in_order entries rs h = ap length (order_one entries rs (ordered entries) h (order_exists entries)) ∙ length-ordered entries

-- what all sections hold has at most as many items as there are bytes
parts_few : (n : ℕ) (sections : List Section) (bytes : List ℕ) (p : Parts) → IsModule sections bytes
    → AreSound sections no_parts sections p → length bytes ≤ n → size p ≤ n
parts_few n sections bytes p framed sound le =
    let all : length bytes ≡ length magic + length framed.0 =
    ap length framed.1 ∙ length-append magic framed.0 in
    omega (
      arith,
      all,
      le,
      all_few size size_measures sections no_parts 0 8 sections framed.0 p
          framed.2 sound,
    )

-- and so have the bodies
pub few_bodies : (n : ℕ) (sections : List Section) (bytes : List ℕ) (p : Parts)
    → IsModule sections bytes → AreSound sections no_parts sections p → length bytes ≤ n
    → length p.bodies ≤ n
few_bodies n sections bytes p framed sound le =
    let few = parts_few n sections bytes p framed sound le in omega (arith, few)

-- and the segments
pub few_segments : (n : ℕ) (sections : List Section) (bytes : List ℕ) (p : Parts)
    → IsModule sections bytes → AreSound sections no_parts sections p → length bytes ≤ n
    → length p.segments ≤ n
few_segments n sections bytes p framed sound le =
    let few = parts_few n sections bytes p framed sound le in omega (arith, few)

-- each list of an object has at most as many items as the object has bytes
pub few_items : (n : ℕ) (bytes : List ℕ) (o : Object) → IsObject o bytes → length bytes ≤ n → HasFewItems n o
few_items n bytes o h le =
    let p = h.parts in
    let all : length bytes ≡ length magic + length h.framed.0 = ap length h.framed.1 ∙ length-append magic h.framed.0 in
    let few : size p ≤ n = parts_few n h.sections bytes p h.framed h.sound le in
    let memories : length p.segment_memories ≤ n = omega (arith, all, le, all_few (λ q. length q.segment_memories) memories_measure h.sections no_parts 0 8 h.sections h.framed.0 p h.framed.2 h.sound) in
    let code : length o.code_relocations ≤ n = omega (arith, few, length-in_order p.code_relocations o.code_relocations h.items.code) in
    let data' : length o.data_relocations ≤ n = omega (arith, few, length-in_order p.data_relocations o.data_relocations h.items.data_) in
    subst (HasFewItems n) (sym h.items.items) (record {
      sections = omega (arith, le, modules_few h.sections bytes h.framed, length-map h.sections (λ (s : Section). s.header));
      types = omega (arith, few);
      imports = omega (arith, few);
      functions = omega (arith, few);
      memories = omega (arith, few);
      globals = omega (arith, few);
      exports = omega (arith, few);
      data_counts = omega (arith, few);
      bodies = omega (arith, few);
      segments = omega (arith, few);
      segment_memories = memories;
      segment_infos = omega (arith, few);
      init_funcs = omega (arith, few);
      symbols = omega (arith, few, length-map p.symbols (with_import_name p.function_names p.global_names));
      reloc_sections = omega (arith, few);
      features = omega (arith, few);
      debug_sections = omega (arith, few);
      code_relocations = code;
      code_sites = rw (as_many _ o.code_relocations o.code_sites h.fitting.code.sited) code;
      data_relocations = data';
      data_sites = rw (as_many _ o.data_relocations o.data_sites h.fitting.data_.sited) data';
    })

-- each list of a whole object has MAX_LEN items at most
pub whole_few : (o : Object) → IsWhole o → HasFewItems MAX_LEN o
whole_few o w = few_items MAX_LEN o.bytes o w.object w.within

-- and so has what it imports of a kind
pub few_imports : (o : Object) (k : ExternalKind) → IsWhole o → count_imports k o.imports ≤ MAX_LEN
few_imports o k w = omega (arith, (whole_few o w).imports, count_by-le-length (λ (i : Imported). is_of_kind k i.entity) o.imports)
