-- Addends of relocations, memories and segments of a whole object keep to their bounds.
use Rattle.std.proofs.Common.{◌≡◌, ◌⊎◌, ℕ, zero, suc, ◌+◌, ◌<◌, ◌≤◌, if◌then◌else◌, Bool, true, false, not, ◌&&◌, ◌||◌, is_some, leb, List, [], ◌∷◌, ◌++◌, length, filter, slice_index_or, Contains, Option, Some, None, refl, sym, ap, subst, ◌∙◌, arith, inl, inr}
use Rattle.std.specs.Prelude.{ℤ, pos, FitsSigned}
use Rattle.std.specs.Int.{w32}
use Rattle.std.specs.List.{AllByRecursion, cons_option, filter_map}
use Rattle.std.proofs.lemmas.Bool.{and_parts, leb-true}
use Rattle.std.proofs.lemmas.Int.{ints}
use Rattle.wl_bytes.specs.Cursor.{Cursor}
use Rattle.wl_bytes.specs.Chains.{Chain, Turns, once_in_turn}
use Rattle.wl_bytes.specs.Grammar.{Items}
use Rattle.wl_bytes.specs.Leb.{IsSigned, s32_form}
use Rattle.wl_bytes.specs.Lists.{Listed}
use Rattle.wl_lists.proofs.Places.{all_append}
use Rattle.wl_bytes.proofs.SignedLaws.{value_is, s32_fits}
use Rattle.wl_module.specs.Imports.{ArePlacedImports, Imported, IsEntity, IsImport, PlacedImported, memory_import_once}
use Rattle.wl_module.specs.Limits.{IsMemoryType, are_within, limits_fit}
use Rattle.wl_module.specs.Memories.{AreMemories, memory_once}
use Rattle.wl_module.specs.declared.imports.ExternalKind.{ExternalKind}
use Rattle.wl_module.specs.declared.imports.ExternalKind.TheVariants as external
use Rattle.wl_module.specs.declared.imports.ImportEntity.{ImportEntity}
use Rattle.wl_module.specs.declared.limits.MemoryType.{MemoryType}
use Rattle.wl_module.proofs.SectionLaws.{module_stands}
use Rattle.wl_custom.specs.Infos.{AreInfos, IsInfo, SegmentInfo}
use Rattle.wl_custom.specs.Linking.{infos_in}
use Rattle.wl_custom.specs.Relocations.{AreEntries, HoldsEntries, IsAddendWhere, IsEntry}
use Rattle.wl_custom.specs.declared.linking.Linking.{Linking as LinkingHeld}
use Rattle.wl_custom.specs.declared.linking.Subsection.{Subsection}
use Rattle.wl_custom.specs.declared.linking.SubsectionKind.TheVariants as part
use Rattle.wl_custom.specs.declared.relocations.Target.{Target}
use Rattle.wl_custom.specs.declared.relocations.Target.TheVariants as target
use Rattle.wl_custom.specs.declared.relocations.WasmRelocation.{WasmRelocation}
use Rattle.wl_linking.specs.Bounds.{HasAlignment, IsSmallMemory, memories_of, memory_in}
use Rattle.wl_linking.specs.Fitting.{IsWhole}
use Rattle.wl_linking.specs.Object.{Object}
use Rattle.wl_linking.specs.Parts.{code_of, data_of, join, no_parts}
use Rattle.wl_linking.specs.Placing.{IsSpanned}
use Rattle.wl_linking.specs.Sections.{base_of}
use Rattle.wl_linking.specs.Sites.{AreInOrder}
use Rattle.wl_linking.specs.declared.parts.Parts.{Parts}
use Rattle.wl_linking.specs.declared.section.SectionItems.TheVariants.{Imports, Memories, Linking, Reloc}
use Rattle.wl_linking.proofs.HeldLaws.{HaveInEach, all_held, all_mapped}
use Rattle.wl_linking.proofs.ImportPlaces.{parts_spanned}
use Rattle.wl_linking.proofs.NameLaws.{HaveInEachPart, linking_has}
use Rattle.wl_linking.proofs.OrderLaws.{tie, ties_with}

-- ---- items one after the other

-- what each item has that is spelled, all items of a row have
all_items : {X : Type 0} (item : ℕ → X → List ℕ → Type 0) (P : X → Type 0) → ((place : ℕ) (x : X) (text : List ℕ) → item place x text → P x)
    → (place : ℕ) (xs : List X) (text : List ℕ) → Items item place xs text → AllByRecursion P xs
all_items item P each place [] text h = tt
all_items item P each place (x ∷ xs) text (front, back, parts, here, rest) = (each place x front here, all_items item P each (place + length front) xs back rest)

-- the same of items in turn
all_in_turn : {S X : Type 0} (turns : Turns S X) (P : X → Type 0) → ((s : S) (place : ℕ) (x : X) (text : List ℕ) → turns.item s place x text → P x)
    → (s : S) (place : ℕ) (xs : List X) (text : List ℕ) → Chain turns s place xs text → AllByRecursion P xs
all_in_turn turns P each s place [] text h = tt
all_in_turn turns P each s place (x ∷ xs) text (front, back, parts, here, rest) =
    (each s place x front here, all_in_turn turns P each (turns.next s x) (place + length front) xs back rest)

-- ---- addends

zero_fits : FitsSigned w32 (pos 0)
zero_fits = grind (arith, ints)

signed_fits : (place : ℕ) (z : ℤ) (text : List ℕ) → IsSigned s32_form place z text → FitsSigned w32 z
signed_fits place z text s = subst (λ (n : ℤ). FitsSigned w32 n) (value_is s32_form text s.leb ∙ sym s.value) (s32_fits text s.leb)

addend_fits : (some : Bool) (place : ℕ) (z : ℤ) (text : List ℕ) → IsAddendWhere some place z text → FitsSigned w32 z
addend_fits false place z text (o, (none, empty), is) = subst (λ (n : ℤ). FitsSigned w32 n) is (rw none zero_fits)
addend_fits true place z text (None, h, is) = absurd h
addend_fits true place z text (Some y, h, is) = subst (λ (n : ℤ). FitsSigned w32 n) is (signed_fits place y text h)

-- the addend of a relocation is a signed number of 32 bits
abbrev HasWord : WasmRelocation → Type 0
HasWord r = FitsSigned w32 r.addend

entry_word : (at : Target) (place : ℕ) (r : WasmRelocation) (text : List ℕ) → IsEntry at place r text → HasWord r
entry_word at place r text (p, (f, b, e, byte, (f1, b1, e1, judged, (f2, b2, e2, offset, (f3, b3, e3, index, addend)))), is) =
    subst HasWord is (addend_fits _ _ p.1.1.1.1 b3 addend)

entries_words : (at : Target) (rs : List WasmRelocation) (from : Cursor) → AreEntries at rs from → AllByRecursion HasWord rs
entries_words at rs from (to, takes, end) = words takes.spelled
  where
    words : Listed (IsEntry at) from.position rs takes.text → AllByRecursion HasWord rs
    words (head, body, parts, count, items) = all_items (IsEntry at) HasWord (entry_word at) _ rs body items

code_words : (t : Target) (rs : List WasmRelocation) (from : Cursor) → HoldsEntries t rs from → AllByRecursion HasWord (code_of t rs)
code_words target.Code rs from h = entries_words target.Code rs from h
code_words target.Data rs from h = tt
code_words target.Debug rs from h = tt

data_words : (t : Target) (rs : List WasmRelocation) (from : Cursor) → HoldsEntries t rs from → AllByRecursion HasWord (data_of t rs)
data_words target.Code rs from h = tt
data_words target.Data rs from h = entries_words target.Data rs from h
data_words target.Debug rs from h = tt

-- ---- relocations in order of their fields

chosen_all : {X : Type 0} (P : X → Type 0) (b : Bool) (x : X) (xs : List X) → P x → AllByRecursion P xs → AllByRecursion P (if b then x ∷ xs else xs)
chosen_all P true x xs here all = (here, all)
chosen_all P false x xs here all = all

chosen_first : {X : Type 0} (P : X → Type 0) (b : Bool) (x : X) (xs : List X) → b ≡ true → AllByRecursion P (if b then x ∷ xs else xs) → P x
chosen_first P true x xs is all = all.0
chosen_first P false x xs is all = absurd cc

chosen_rest : {X : Type 0} (P : X → Type 0) (b : Bool) (x : X) (xs : List X) → AllByRecursion P (if b then x ∷ xs else xs) → AllByRecursion P xs
chosen_rest P true x xs all = all.1
chosen_rest P false x xs all = all

-- what all of some have, those that pass a test have
all_filtered : {X : Type 0} (P : X → Type 0) (test : X → Bool) (xs : List X) → AllByRecursion P xs → AllByRecursion P (filter test xs)
all_filtered P test [] h = tt
all_filtered {X} P test (x ∷ xs) h = chosen_all P (test x) x (filter test xs) h.0 (all_filtered P test xs h.1)

-- one that passes the test has what all those have that do
one_filtered : {X : Type 0} (P : X → Type 0) (test : X → Bool) (xs : List X) (k : ℕ) (r : X) → k < length xs → slice_index_or xs k r ≡ r → test r ≡ true → AllByRecursion P (filter test xs) → P r
one_filtered P test [] k r within at pass h = absurd (omega (arith, within))
one_filtered {X} P test (x ∷ xs) zero r within at pass h = subst P at (chosen_first P (test x) x (filter test xs) (ap test at ∙ pass) h)
one_filtered {X} P test (x ∷ xs) (suc k) r within at pass h = one_filtered P test xs k r (omega (arith, within)) at pass (chosen_rest P (test x) x (filter test xs) h)

-- what all entries have, each one in order of fields has
ordered_has : (P : WasmRelocation → Type 0) (entries rs : List WasmRelocation) → AreInOrder entries rs → AllByRecursion P entries → (r : WasmRelocation) → Contains rs r → P r
ordered_has P entries rs order all r (k, within, at) =
    one_filtered P (ties_with r) rs k r within at (tie r r refl) (subst (λ (xs : List WasmRelocation). AllByRecursion P xs) (sym (order.stable r)) (all_filtered P (ties_with r) entries all))

-- ---- memories

least_within : (n least : ℕ) (most : Option ℕ) → are_within n least most ≡ true → least ≤ n
least_within n least None h = leb-true least n h
least_within n least (Some most) h = leb-true least n (and_parts (leb least n) (leb most n) h).0

memory_small : (place : ℕ) (m : MemoryType) (text : List ℕ) → IsMemoryType place m text → IsSmallMemory m
memory_small place m text (l, (spelled, fit), is) =
    let rest = (and_parts (limits_fit l) (are_within 65536 l.minimum l.maximum && (not l.shared || is_some l.maximum)) fit).1 in
    let within = (and_parts (are_within 65536 l.minimum l.maximum) (not l.shared || is_some l.maximum) rest).0 in
    subst IsSmallMemory is (least_within 65536 l.minimum l.maximum within)

-- where a memory is imported, that one does
abbrev ImportsSmallMemory : Imported → Type 0
ImportsSmallMemory i = (m : MemoryType) → memory_in i.entity ≡ Some m → IsSmallMemory m

entity_small : (k : ExternalKind) (place : ℕ) (e : ImportEntity) (text : List ℕ) → IsEntity k place e text → (m : MemoryType) → memory_in e ≡ Some m → IsSmallMemory m
entity_small external.Func place e text (n, h, is) m some = absurd (let none = rw (← is) at some in cc)
entity_small external.Table place e text (t, h, is) m some = absurd (let none = rw (← is) at some in cc)
entity_small external.Memory place e text (found, h, is) m some =
    let same : found ≡ m = let one = rw (← is) at some in cc in
    subst IsSmallMemory same (memory_small place found text h)
entity_small external.Global place e text (g, h, is) m some = absurd (let none = rw (← is) at some in cc)

import_small : (place : ℕ) (i : PlacedImported) (text : List ℕ) → IsImport place i text → ImportsSmallMemory i.import
import_small place i text (p, (f, b, e, origin, (f1, b1, e1, name, (f2, b2, e2, coded, entity))), is) =
    subst (λ (x : PlacedImported). ImportsSmallMemory x.import) is (entity_small p.1.1.0 _ p.1.1.1 b2 entity)

one_more : (o : Option MemoryType) (ms : List MemoryType) → ((m : MemoryType) → o ≡ Some m → IsSmallMemory m) → AllByRecursion IsSmallMemory ms → AllByRecursion IsSmallMemory (cons_option o ms)
one_more None ms small all = all
one_more (Some m) ms small all = (small m refl, all)

imported_small : (is : List Imported) → AllByRecursion ImportsSmallMemory is → AllByRecursion IsSmallMemory (filter_map (λ (i : Imported). memory_in i.entity) is)
imported_small [] h = tt
imported_small (i ∷ is) h = one_more (memory_in i.entity) (filter_map (λ (j : Imported). memory_in j.entity) is) h.0 (imported_small is h.1)

-- ---- facts about segments

info_aligned : (place : ℕ) (i : SegmentInfo) (text : List ℕ) → IsInfo place i text → HasAlignment i
info_aligned place i text (f, b, e, name, (f1, b1, e1, (n, (spelled, fit), is), flags)) = (n, leb-true n 31 fit, sym is)

infos_aligned : (infos : List SegmentInfo) (payload : List ℕ) → AreInfos infos payload → AllByRecursion HasAlignment infos
infos_aligned infos payload (head, body, parts, count, items) = all_items IsInfo HasAlignment info_aligned _ infos body items

aligned_in_each_part : (bytes : List ℕ) → HaveInEachPart infos_in HasAlignment bytes
aligned_in_each_part bytes base part.SegmentInfo s payload there held =
    subst (λ (x : Subsection). AllByRecursion HasAlignment (infos_in x)) held.1 (infos_aligned held.0 payload held.2)
aligned_in_each_part bytes base part.InitFuncs s payload there held = subst (λ (x : Subsection). AllByRecursion HasAlignment (infos_in x)) held.1 tt
aligned_in_each_part bytes base part.SymbolTable s payload there held = subst (λ (x : Subsection). AllByRecursion HasAlignment (infos_in x)) held.1 tt
aligned_in_each_part bytes base part.Other s payload there held = rw held tt

-- ---- the items of each section

words_in_each : (bytes : List ℕ) → HaveInEach (λ p. p.code_relocations) HasWord bytes
words_in_each bytes k s (Reloc held) there h = code_words held.target held.section.relocations h.2.behind h.2.entries
words_in_each bytes k s _ there h = tt

data_words_in_each : (bytes : List ℕ) → HaveInEach (λ p. p.data_relocations) HasWord bytes
data_words_in_each bytes k s (Reloc held) there h = data_words held.target held.section.relocations h.2.behind h.2.entries
data_words_in_each bytes k s _ there h = tt

small_in_each : (bytes : List ℕ) → HaveInEach (λ p. p.memories) IsSmallMemory bytes
small_in_each bytes k s (Memories memories) there h = small h.1 memories s.payload h.2
  where
    small : (imported : Bool) (memories : List MemoryType) (payload : List ℕ) → AreMemories imported memories payload → AllByRecursion IsSmallMemory memories
    small imported memories payload (head, body, parts, count, items) =
        all_in_turn (once_in_turn IsMemoryType (memory_once imported)) IsSmallMemory (λ seen place m text h. memory_small place m text h.0) _ _ memories body items
small_in_each bytes k s _ there h = tt

small_imports_in_each : (bytes : List ℕ) → HaveInEach (λ p. p.imports) ImportsSmallMemory bytes
small_imports_in_each bytes k s (Imports imports base) there h =
    all_mapped (λ (i : PlacedImported). i.import) (λ (i : PlacedImported). ImportsSmallMemory i.import) ImportsSmallMemory imports (λ i small. small) (small imports s.payload h.2)
  where
    small : (imports : List PlacedImported) (payload : List ℕ) → ArePlacedImports imports payload → AllByRecursion (λ (i : PlacedImported). ImportsSmallMemory i.import) imports
    small imports payload (head, body, parts, count, items) =
        all_in_turn (once_in_turn IsImport memory_import_once) (λ (i : PlacedImported). ImportsSmallMemory i.import) (λ seen place i text h. import_small place i text h.0) _ _ imports body items
small_imports_in_each bytes k s _ there h = tt

aligned_in_each : (bytes : List ℕ) → HaveInEach (λ p. p.segment_infos) HasAlignment bytes
aligned_in_each bytes k s (Linking linking) there h =
    linking_has infos_in (λ (l : LinkingHeld). l.segment_infos) HasAlignment bytes (aligned_in_each_part bytes) (λ xs. refl) s.payload (base_of s) linking there.payload.0 h.1
aligned_in_each bytes k s _ there h = tt

-- ---- whole objects

-- what the items of each section have, all of them have
in_parts : {X : Type 0} (o : Object) (whole : IsWhole o) (list : Parts → List X) (P : X → Type 0) → ((a b : Parts) → list (join a b) ≡ list a ++ list b)
    → HaveInEach list P o.bytes → AllByRecursion P (list no_parts) → AllByRecursion P (list whole.object.parts)
in_parts o whole list P joins each none =
    let w = whole.object in
    all_held list P o.bytes joins each w.sections no_parts w.sections w.parts (module_stands o.bytes w.sections w.framed) w.sound none

pub addends_fit : (o : Object) (r : WasmRelocation) → IsWhole o → (Contains o.code_relocations r ⊎ Contains o.data_relocations r) → FitsSigned w32 r.addend
addends_fit o r whole (inl here) =
    ordered_has HasWord _ o.code_relocations whole.object.items.code (in_parts o whole (λ p. p.code_relocations) HasWord (λ a b. refl) (words_in_each o.bytes) tt) r here
addends_fit o r whole (inr here) =
    ordered_has HasWord _ o.data_relocations whole.object.items.data_ (in_parts o whole (λ p. p.data_relocations) HasWord (λ a b. refl) (data_words_in_each o.bytes) tt) r here

pub memories_small : (o : Object) → IsWhole o → AllByRecursion IsSmallMemory (memories_of o)
memories_small o whole =
    subst (λ (x : Object). AllByRecursion IsSmallMemory (memories_of x)) (sym whole.object.items.items)
    (all_append IsSmallMemory (filter_map (λ (i : Imported). memory_in i.entity) whole.object.parts.imports) whole.object.parts.memories
    (imported_small whole.object.parts.imports (in_parts o whole (λ p. p.imports) ImportsSmallMemory (λ a b. refl) (small_imports_in_each o.bytes) tt))
    (in_parts o whole (λ p. p.memories) IsSmallMemory (λ a b. refl) (small_in_each o.bytes) tt))

pub infos_are_aligned : (o : Object) → IsWhole o → AllByRecursion HasAlignment o.segment_infos
infos_are_aligned o whole =
    subst (λ (x : Object). AllByRecursion HasAlignment x.segment_infos) (sym whole.object.items.items)
    (in_parts o whole (λ p. p.segment_infos) HasAlignment (λ a b. refl) (aligned_in_each o.bytes) tt)

pub segments_spanned : (o : Object) → IsWhole o → AllByRecursion IsSpanned o.segments
segments_spanned o whole =
    subst (λ (x : Object). AllByRecursion IsSpanned x.segments) (sym whole.object.items.items)
    (parts_spanned o.bytes whole.object.sections whole.object.parts whole.within whole.object.framed whole.object.sound)
