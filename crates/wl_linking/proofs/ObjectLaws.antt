-- Bytes are one object at most, or something is wrong with them, and never both.
use Rattle.std.proofs.Common.{◌≡◌, ℕ, List, length, Result, Ok, Err, Bool, true, false, sym, ap, subst, ◌∙◌, inl, inr, arith}
use Rattle.std.specs.Prelude.{MatchResult}
use Rattle.wl_module.specs.declared.sections.SectionHeader.{SectionHeader}
use Rattle.wl_bytes.specs.declared.read_error.Why.TheVariants as why
use Rattle.wl_bytes.specs.declared.read_error.ReadError.{ReadError}
use Rattle.wl_bytes.specs.declared.read_error.ReadError.TheVariants.{OutOfMemory, Malformed, Unsupported}
use Rattle.wl_module.specs.Sections.{Section, headers_of, IsModule, FrameFault}
use Rattle.wl_module.proofs.SectionLaws.{module_alternatives}
use Rattle.wl_bytes.specs.Outcome.{HasCause}
use Rattle.wl_custom.specs.Symbols.{Symbol}
use Rattle.wl_custom.proofs.Exact.{answer_follows}
use Rattle.wl_linking.specs.Sections.{AreSound}
use Rattle.wl_linking.specs.Object.{Object}
use Rattle.wl_linking.specs.Parts.{no_parts}
use Rattle.wl_linking.specs.Placing.{Ascend}
use Rattle.wl_linking.specs.Spaces.{NamesExist, NamesFault, spaces_of, counts_hold, core_names_exist, linked_names_exist}
use Rattle.wl_linking.specs.Slots.{AgreeOnNames, SlotFault, HasOneName, HasTwoNames}
use Rattle.wl_linking.specs.Sites.{LieApart}
use Rattle.wl_linking.specs.Fitting.{HasItems, IsFitting, CrossFault, PartsFault, IsPlacedObject, HoldsObject, IsNamed, NamingFault, IsObject, IsUnfitting, FirstItemsFault, ObjectFault, ParsesObject, code_pieces, data_pieces}
use Rattle.wl_linking.specs.declared.parts.Parts.{Parts}
use Rattle.wl_linking.specs.declared.sites.Site.{Site}
use Rattle.wl_linking.specs.declared.spaces.Counts.{Counts}
use Rattle.wl_custom.specs.declared.symbols.WasmSymbolKind.{WasmSymbolKind}
use Rattle.wl_custom.specs.declared.symbols.WasmSymbolKind.TheVariants.{Func, Data, Global, Section as SectionSymbol, Event, Table}
use Rattle.wl_linking.proofs.SectionLaws.{sections_one, sections_either, sections_one_fault}
use Rattle.wl_linking.proofs.OrderLaws.{order_one, lie_apart_one, lie_apart_either}
use Rattle.wl_linking.proofs.OnceLaws.{code_ascends, data_ascends}
use Rattle.wl_linking.proofs.FewLaws.{few_items}
use Rattle.wl_linking.proofs.ExistLaws.{counts_pass, core_passes, linked_passes}

-- ---- one object

-- the same object with the places of another
abbrev with_sites : Object → Object → Object
with_sites o p = record o { code_sites = p.code_sites; data_sites = p.data_sites }

-- two objects of the same parts are the same but for the places of fields
items_one : (bytes : List ℕ) (headers : List SectionHeader) (parts : Parts) (o p : Object) → HasItems bytes headers parts o → HasItems bytes headers parts p → with_sites o p ≡ p
items_one bytes headers parts o p h k =
    ap (λ (x : Object). with_sites x p) h.items ∙ rw (order_one parts.code_relocations o.code_relocations p.code_relocations h.code k.code, order_one parts.data_relocations o.data_relocations p.data_relocations h.data_ k.data_) (sym k.items)

-- what two objects of the same bytes hold
held_same : (bytes : List ℕ) (ss ts : List Section) (a b : Parts) → IsModule ss bytes → IsModule ts bytes → AreSound ss no_parts ss a → AreSound ts no_parts ts b → (ss ≡ ts) × (a ≡ b)
held_same bytes ss ts a b f g h k =
    let same = module_alternatives.one_value bytes ss ts f g in
    (same, sections_one ss no_parts ss a b h (subst (λ (us : List Section). AreSound us no_parts us b) (sym same) k))

-- the same object by other names of what it holds
items_as : (bytes : List ℕ) (o : Object) (h : IsObject o bytes) (ss : List Section) (parts : Parts) → IsModule ss bytes → AreSound ss no_parts ss parts → HasItems bytes (headers_of ss) parts o
items_as bytes o h ss parts framed sound =
    let same = held_same bytes h.sections ss h.parts parts h.framed framed h.sound sound in
    subst (λ (us : List Section). HasItems bytes (headers_of us) parts o) same.0 (subst (λ (p : Parts). HasItems bytes (headers_of h.sections) p o) same.1 h.items)

-- pieces stand one after the other
code_up : (bytes : List ℕ) (o : Object) → IsObject o bytes → Ascend 0 (code_pieces o)
code_up bytes o h = subst (λ (x : Object). Ascend 0 (code_pieces x)) (sym h.items.items) (code_ascends bytes h.sections h.parts h.framed h.sound)

data_up : (bytes : List ℕ) (o : Object) → IsObject o bytes → Ascend 0 (data_pieces o)
data_up bytes o h = subst (λ (x : Object). Ascend 0 (data_pieces x)) (sym h.items.items) (data_ascends bytes h.sections h.parts h.framed h.sound)

abbrev with_both : Object → List Site → List Site → Object
with_both o code data_ = record o { code_sites = code; data_sites = data_ }

same_sites : (o p : Object) → with_sites o p ≡ p → o.code_sites ≡ p.code_sites → o.data_sites ≡ p.data_sites → o ≡ p
same_sites o p same code data_ =
    ap (λ (xs : List Site). with_both o xs o.data_sites) code ∙ ap (λ (xs : List Site). with_both o p.code_sites xs) data_ ∙ same

pub object_one : (bytes : List ℕ) (o p : Object) → IsObject o bytes → IsObject p bytes → o ≡ p
object_one bytes o p h k =
    let alike = items_one bytes (headers_of k.sections) k.parts o p (items_as bytes o h k.sections k.parts k.framed k.sound) k.items in
    let code : LieApart (code_pieces p) p.code_relocations o.code_sites = subst (λ (x : Object). LieApart (code_pieces x) x.code_relocations o.code_sites) alike h.fitting.code in
    let data' : LieApart (data_pieces p) p.data_relocations o.data_sites = subst (λ (x : Object). LieApart (data_pieces x) x.data_relocations o.data_sites) alike h.fitting.data_ in
    same_sites o p alike
    (lie_apart_one (code_pieces p) p.code_relocations o.code_sites p.code_sites (code_up bytes p k) code k.fitting.code)
    (lie_apart_one (data_pieces p) p.data_relocations o.data_sites p.data_sites (data_up bytes p k) data' k.fitting.data_)

-- ---- an object, or a fault

both : (b : Bool) {P : Type 0} → b ≡ true → b ≡ false → P
both true t f = absurd cc
both false t f = absurd cc

names_or_not : (o : Object) (e : ReadError) → NamesExist o → NamesFault o e → ⊥
names_or_not o (Malformed why.Count) h f = both (counts_hold (spaces_of o) o) (counts_pass o h) f
names_or_not o (Malformed why.BadIndex) h (inl f) = both (core_names_exist (spaces_of o) o) (core_passes o h) f
names_or_not o (Malformed why.BadIndex) h (inr f) = both (linked_names_exist (spaces_of o) o) (linked_passes o h) f
names_or_not o _ h f = f

one_or_two : (kind : WasmSymbolKind) (count : ℕ) (symbols : List Symbol) → HasOneName kind count symbols → HasTwoNames kind count symbols → ⊥
one_or_two kind count symbols one two = two.differ (one two.first two.second two.one two.other two.one_is two.other_is two.shared)

-- no import is for a symbol of the other kinds
never_two : (kind : WasmSymbolKind) (symbols : List Symbol) → HasTwoNames kind 0 symbols → ⊥
never_two kind symbols two = absurd (let exists = two.shared.exists in omega arith)

slots_or_not : (spaces : Counts) (symbols : List Symbol) (e : ReadError) → AgreeOnNames spaces symbols → SlotFault spaces symbols e → ⊥
slots_or_not spaces symbols e h (is, (Func, two)) = one_or_two Func spaces.imported_functions symbols h.functions two
slots_or_not spaces symbols e h (is, (Global, two)) = one_or_two Global spaces.imported_globals symbols h.globals two
slots_or_not spaces symbols e h (is, (Table, two)) = one_or_two Table spaces.imported_tables symbols h.tables two
slots_or_not spaces symbols e h (is, (Data, two)) = never_two Data symbols two
slots_or_not spaces symbols e h (is, (SectionSymbol, two)) = never_two SectionSymbol symbols two
slots_or_not spaces symbols e h (is, (Event, two)) = never_two Event symbols two

fitting_or_not : (o : Object) (e : ReadError) → Ascend 0 (code_pieces o) → Ascend 0 (data_pieces o) → IsFitting o → CrossFault o e → ⊥
fitting_or_not o e code data_ h (inl f) = names_or_not o e h.names f
fitting_or_not o e code data_ h (inr (inl f)) = slots_or_not (spaces_of o) o.symbols e h.slots f
fitting_or_not o e code data_ h (inr (inr (inl f))) = lie_apart_either (code_pieces o) o.code_relocations o.code_sites e code h.code f
fitting_or_not o e code data_ h (inr (inr (inr f))) = lie_apart_either (data_pieces o) o.data_relocations o.data_sites e data_ h.data_ f

-- sections that don't fit together make no object
fits_or_not : (bytes : List ℕ) (o : Object) (sections : List Section) (e : ReadError) → IsObject o bytes → IsModule sections bytes → IsUnfitting sections bytes e → ⊥
fits_or_not bytes o sections e h framed f =
    let alike = items_one bytes (headers_of sections) f.parts f.fault.0 o f.fault.1 (items_as bytes o h sections f.parts framed f.sound) in
    let cross : CrossFault o e = subst (λ (x : Object). CrossFault x e) alike f.fault.2 in
    fitting_or_not o e (code_up bytes o h) (data_up bytes o h) h.fitting cross

pub object_either : (bytes : List ℕ) (o : Object) (e : ReadError) → IsObject o bytes → ObjectFault e bytes → ⊥
object_either bytes o e h (inl f) = module_alternatives.no_fault bytes h.sections e h.framed f
object_either bytes o e h (inr (sections, framed, inl f)) =
    let same = module_alternatives.one_value bytes h.sections sections h.framed framed in
    sections_either h.sections no_parts h.sections h.parts e h.sound (subst (λ (ss : List Section). FirstItemsFault ss e) (sym same) f)
object_either bytes o e h (inr (sections, framed, inr f)) = fits_or_not bytes o sections e h framed f

-- a fault of the frame is the only one
pub frame_first : (bytes : List ℕ) (e d : ReadError) → FrameFault e bytes → ObjectFault d bytes → d ≡ e
frame_first bytes e d f (inl g) = module_alternatives.one_fault bytes d e g f
frame_first bytes e d f (inr (sections, framed, g)) = absurd (module_alternatives.no_fault bytes sections e framed f)

-- a section at fault in a sound frame is the only one
pub section_first : (bytes : List ℕ) (e d : ReadError) (sections : List Section) → IsModule sections bytes → FirstItemsFault sections e → ObjectFault d bytes → d ≡ e
section_first bytes e d sections framed f (inl g) = absurd (module_alternatives.no_fault bytes sections d framed g)
section_first bytes e d sections framed f (inr (others, framed', inl g)) =
    let same = module_alternatives.one_value bytes others sections framed' framed in
    sections_one_fault sections no_parts sections d e (subst (λ (ss : List Section). FirstItemsFault ss d) same g) f
section_first bytes e d sections framed f (inr (others, framed', inr g)) =
    let same = module_alternatives.one_value bytes others sections framed' framed in
    absurd (sections_either sections no_parts sections g.parts e (subst (λ (ss : List Section). AreSound ss no_parts ss g.parts) same g.sound) f)

-- ---- what the call does

abbrev right : Object → Result Object ReadError
right o = Ok o

abbrev wrong : ReadError → Result Object ReadError
wrong e = Err e

pub parses : (bytes : List ℕ) (r : Result Object ReadError) → MatchResult r (λ o. IsObject o bytes) (HasCause (λ e. ObjectFault e bytes)) → ParsesObject bytes r
parses bytes (Ok o) h = record {
  sound = h;
  few = few_items (length bytes) bytes o h (omega arith);
  only = λ p k. ap right (object_one bytes p o k h);
  fault = tt;
  frame = λ e f. absurd (object_either bytes o e h (inl f));
  section = λ e hs framed f. absurd (object_either bytes o e h (inr (hs, framed, inl f)));
}
parses bytes (Err OutOfMemory) h = record { sound = tt; few = tt; only = λ p k. tt; fault = tt; frame = λ e f. tt; section = λ e hs framed f. tt }
parses bytes (Err (Malformed w)) h = record {
  sound = tt;
  few = tt;
  only = λ p k. absurd (object_either bytes p (Malformed w) k h);
  fault = h;
  frame = λ e f. ap wrong (sym (frame_first bytes e (Malformed w) f h));
  section = λ e hs framed f. ap wrong (sym (section_first bytes e (Malformed w) hs framed f h));
}
parses bytes (Err (Unsupported w)) h = record {
  sound = tt;
  few = tt;
  only = λ p k. absurd (object_either bytes p (Unsupported w) k h);
  fault = h;
  frame = λ e f. ap wrong (sym (frame_first bytes e (Unsupported w) f h));
  section = λ e hs framed f. ap wrong (sym (section_first bytes e (Unsupported w) hs framed f h));
}

-- ---- the steps of the call

-- parts that don't fit together are a fault of the object
unfitting : (bytes : List ℕ) (sections : List Section) (parts : Parts) (e : ReadError) → IsModule sections bytes → AreSound sections no_parts sections parts → PartsFault bytes (headers_of sections) parts e → ObjectFault e bytes
unfitting bytes sections parts e framed sound h = inr (sections, framed, inr (record { parts = parts; sound = sound; fault = h }))

-- what is answered of the parts of sound sections is answered of the bytes
pub holds : (bytes : List ℕ) (sections : List Section) (parts : Parts) (r : Result Object ReadError) → IsModule sections bytes → AreSound sections no_parts sections parts
    → MatchResult r (IsPlacedObject bytes (headers_of sections) parts) (HasCause (PartsFault bytes (headers_of sections) parts))
    → MatchResult r (HoldsObject bytes) (HasCause (λ e. ObjectFault e bytes))
holds bytes sections parts r framed sound h =
    answer_follows (IsPlacedObject bytes (headers_of sections) parts) (HoldsObject bytes)
    (PartsFault bytes (headers_of sections) parts) (λ e. ObjectFault e bytes)
    (λ o placed. record { sections = sections; framed = framed; parts = parts; sound = sound; placed = placed })
    (λ e f. unfitting bytes sections parts e framed sound f) r h

-- an object whose fields are placed fits together where what it names is there
pub object_from : (bytes : List ℕ) (o : Object) → HoldsObject bytes o → IsNamed o → IsObject o bytes
object_from bytes o h named = record {
  sections = h.sections;
  framed = h.framed;
  parts = h.parts;
  sound = h.sound;
  items = h.placed.items;
  fitting = record { names = named.names; slots = named.slots; code = h.placed.code; data_ = h.placed.data_ };
}

-- and else what isn't there is a fault of the object
pub unnamed : (bytes : List ℕ) (o : Object) (e : ReadError) → HoldsObject bytes o → NamingFault o e → ObjectFault e bytes
unnamed bytes o e h (inl f) = unfitting bytes h.sections h.parts e h.framed h.sound (o, h.placed.items, inl f)
unnamed bytes o e h (inr f) = unfitting bytes h.sections h.parts e h.framed h.sound (o, h.placed.items, inr (inl f))
