-- Bytes are an object, or something is wrong with them: always one of the two.
use Rattle.std.proofs.Common.{◌≡◌, ◌≢◌, ◌⊎◌, ℕ, zero, suc, ◌+◌, ◌<◌, ◌≤◌, Bool, true, false, List, [], ◌∷◌, map, get_or, Option, Some, None, refl, sym, subst, arith, inl, inr}
use Rattle.std.specs.List.{slice_get}
use Rattle.std.specs.Str.{bytes_eq}
use Rattle.std.proofs.lemmas.Bool.{cases_lt, cases_eq}
use Rattle.std.proofs.lemmas.Option.{slice_get-get_or, slice_get_within, get_or_from_slice_get}
use Rattle.std.proofs.lemmas.Slice.Eq.{bytes_eq-Decides}
use Rattle.wl_module.specs.declared.sections.SectionHeader.{SectionHeader}
use Rattle.wl_bytes.specs.declared.read_error.Why.TheVariants as why
use Rattle.wl_bytes.specs.declared.read_error.ReadError.{ReadError}
use Rattle.wl_bytes.specs.declared.read_error.ReadError.TheVariants.{Malformed}
use Rattle.wl_module.specs.Sections.{Section, headers_of, IsModule, FrameFault}
use Rattle.wl_module.proofs.SectionLaws.{module_alternatives}
use Rattle.wl_custom.specs.RelocationTypes.{field_form}
use Rattle.wl_custom.specs.Symbols.{Symbol}
use Rattle.wl_linking.specs.Sections.{AreSound}
use Rattle.wl_linking.specs.Object.{Object}
use Rattle.wl_linking.specs.Parts.{no_parts}
use Rattle.wl_linking.specs.Placing.{Ascend}
use Rattle.wl_linking.specs.Spaces.{NamesExist, NamesFault, spaces_of, counts_hold, core_names_exist, linked_names_exist}
use Rattle.wl_linking.specs.Slots.{claims, SharesSlot, HasOneName, HasTwoNames, AgreeOnNames, SlotFault}
use Rattle.wl_linking.specs.Sites.{PieceOf, AreInOrder, IsSite, AreSites, LiesBefore, AreApart, HasNoSite, HasOverlap, LieApart, FieldsFault, field_len, body_piece, segment_piece}
use Rattle.wl_linking.specs.Fitting.{Fields, object_of, HasItems, IsFitting, PartsFault, SettlingFault, IsObject, FirstItemsFault, ObjectFault}
use Rattle.wl_linking.specs.declared.parts.Parts.{Parts}
use Rattle.wl_custom.specs.declared.relocations.WasmRelocation.{WasmRelocation}
use Rattle.wl_linking.specs.declared.sites.Site.{Site}
use Rattle.wl_linking.specs.declared.spaces.Counts.{Counts}
use Rattle.wl_custom.specs.declared.symbols.WasmSymbolKind.{WasmSymbolKind}
use Rattle.wl_custom.specs.declared.symbols.WasmSymbolKind.TheVariants.{Func, Global, Table}
use Rattle.wl_linking.proofs.ExistLaws.{names_exist}
use Rattle.wl_linking.proofs.OnceLaws.{code_ascends, data_ascends}
use Rattle.wl_linking.proofs.OrderExists.{ordered, order_exists}
use Rattle.wl_linking.proofs.SectionLaws.{sections_some}
use Rattle.wl_linking.proofs.SiteLaws.{site_among, site_is, site_is_found}

-- ---- what is named exists, or doesn't

names_or_fault : (o : Object) → NamesExist o ⊎ ((e : ReadError) × NamesFault o e)
names_or_fault o = by_tests (counts_hold (spaces_of o) o) (core_names_exist (spaces_of o) o) (linked_names_exist (spaces_of o) o) refl refl refl
  where
    by_tests : (counts core linked : Bool) → counts_hold (spaces_of o) o ≡ counts → core_names_exist (spaces_of o) o ≡ core → linked_names_exist (spaces_of o) o ≡ linked → NamesExist o ⊎ ((e : ReadError) × NamesFault o e)
    by_tests false core linked e f g = inr (Malformed why.Count, e)
    by_tests true false linked e f g = inr (Malformed why.BadIndex, inl f)
    by_tests true true false e f g = inr (Malformed why.BadIndex, inr g)
    by_tests true true true e f g = inl (names_exist o e f g)

-- ---- each of some things, or one of them

-- P holds of each at its number, or Q of one
each_or_one : {X : Type 0} (P Q : X → Type 0) → ((x : X) → P x ⊎ Q x) → (xs : List X) → ((i : ℕ) (x : X) → slice_get xs i ≡ Some x → P x) ⊎ ((i : ℕ) × (x : X) × (slice_get xs i ≡ Some x) × Q x)
each_or_one {X} P Q decide [] = inl (λ i x here. absurd cc)
each_or_one {X} P Q decide (x ∷ xs) = by_rest (decide x) (each_or_one P Q decide xs)
  where
    at : P x → ((i : ℕ) (y : X) → slice_get xs i ≡ Some y → P y) → (i : ℕ) (y : X) → slice_get (x ∷ xs) i ≡ Some y → P y
    at p rest zero y here = let same : x ≡ y = cc in subst P same p
    at p rest (suc i) y here = rest i y here

    by_rest : P x ⊎ Q x → ((i : ℕ) (y : X) → slice_get xs i ≡ Some y → P y) ⊎ ((i : ℕ) × (y : X) × (slice_get xs i ≡ Some y) × Q y)
        → ((i : ℕ) (y : X) → slice_get (x ∷ xs) i ≡ Some y → P y) ⊎ ((i : ℕ) × (y : X) × (slice_get (x ∷ xs) i ≡ Some y) × Q y)
    by_rest (inr q) rest = inr (zero, x, refl, q)
    by_rest (inl p) (inr found) = inr (suc found.0, found.1, found.2, found.3)
    by_rest (inl p) (inl rest) = inl (at p rest)

-- ---- each import has one name, or one has two

-- two symbols share an import, or don't
shares_or_not : (kind : WasmSymbolKind) (count : ℕ) (s t : Symbol) → SharesSlot kind count s t ⊎ (SharesSlot kind count s t → ⊥)
shares_or_not kind count s t = by_tests (claims kind s) (claims kind t) refl refl (cases_eq s.index t.index) (cases_lt s.index count)
  where
    by_tests : (one other : Bool) → claims kind s ≡ one → claims kind t ≡ other → (s.index ≡ t.index) ⊎ (s.index ≡ t.index → ⊥) → (s.index < count) ⊎ (count ≤ s.index) → SharesSlot kind count s t ⊎ (SharesSlot kind count s t → ⊥)
    by_tests false other e f slot exists = inr (λ h. absurd (let yes = h.one in cc))
    by_tests true false e f slot exists = inr (λ h. absurd (let yes = h.other in cc))
    by_tests true true e f (inr differ) exists = inr (λ h. differ h.slot)
    by_tests true true e f (inl slot) (inr le) = inr (λ h. absurd (let lt = h.exists in omega arith))
    by_tests true true e f (inl slot) (inl lt) = inl (record { one = e; other = f; slot = slot; exists = lt })

-- they have one name where they share one, or two
alike_or_not : (kind : WasmSymbolKind) (count : ℕ) (s t : Symbol) → (SharesSlot kind count s t → s.name ≡ t.name) ⊎ (SharesSlot kind count s t × (s.name ≢ t.name))
alike_or_not kind count s t = by_share (shares_or_not kind count s t) (bytes_eq s.name t.name) refl
  where
    by_share : SharesSlot kind count s t ⊎ (SharesSlot kind count s t → ⊥) → (b : Bool) → bytes_eq s.name t.name ≡ b → (SharesSlot kind count s t → s.name ≡ t.name) ⊎ (SharesSlot kind count s t × (s.name ≢ t.name))
    by_share (inr not) b is = inl (λ h. absurd (not h))
    by_share (inl h) true is = inl (λ _. (bytes_eq-Decides s.name t.name).0 is)
    by_share (inl h) false is = inr (h, λ e. absurd (let yes = (bytes_eq-Decides s.name t.name).1 e in cc))

one_name_or_two : (kind : WasmSymbolKind) (count : ℕ) (symbols : List Symbol) → HasOneName kind count symbols ⊎ HasTwoNames kind count symbols
one_name_or_two kind count symbols = by_pairs (each_or_one Agrees Differs agree_or_not symbols)
  where
    Agrees : Symbol → Type 0
    Agrees s = (j : ℕ) (t : Symbol) → slice_get symbols j ≡ Some t → SharesSlot kind count s t → s.name ≡ t.name

    Differs : Symbol → Type 0
    Differs s = (j : ℕ) × (t : Symbol) × (slice_get symbols j ≡ Some t) × (SharesSlot kind count s t × (s.name ≢ t.name))

    agree_or_not : (s : Symbol) → Agrees s ⊎ Differs s
    agree_or_not s = each_or_one (λ t. SharesSlot kind count s t → s.name ≡ t.name) (λ t. SharesSlot kind count s t × (s.name ≢ t.name)) (alike_or_not kind count s) symbols

    by_pairs : ((i : ℕ) (s : Symbol) → slice_get symbols i ≡ Some s → Agrees s) ⊎ ((i : ℕ) × (s : Symbol) × (slice_get symbols i ≡ Some s) × Differs s) → HasOneName kind count symbols ⊎ HasTwoNames kind count symbols
    by_pairs (inl all) = inl (λ i j s t here there. all i s here j t there)
    by_pairs (inr (i, s, here, (j, t, there, differ))) = inr (record { first = i; second = j; one = s; other = t; one_is = here; other_is = there; shared = differ.0; differ = differ.1 })

slots_or_fault : (spaces : Counts) (symbols : List Symbol) → AgreeOnNames spaces symbols ⊎ ((e : ReadError) × SlotFault spaces symbols e)
slots_or_fault spaces symbols = by_kind (one_name_or_two Func spaces.imported_functions symbols) (one_name_or_two Global spaces.imported_globals symbols) (one_name_or_two Table spaces.imported_tables symbols)
  where
    by_kind : HasOneName Func spaces.imported_functions symbols ⊎ HasTwoNames Func spaces.imported_functions symbols
        → HasOneName Global spaces.imported_globals symbols ⊎ HasTwoNames Global spaces.imported_globals symbols
        → HasOneName Table spaces.imported_tables symbols ⊎ HasTwoNames Table spaces.imported_tables symbols
        → AgreeOnNames spaces symbols ⊎ ((e : ReadError) × SlotFault spaces symbols e)
    by_kind (inr two) globals tables = inr (Malformed why.SlotNames, (refl, (Func, two)))
    by_kind (inl functions) (inr two) tables = inr (Malformed why.SlotNames, (refl, (Global, two)))
    by_kind (inl functions) (inl globals) (inr two) = inr (Malformed why.SlotNames, (refl, (Table, two)))
    by_kind (inl functions) (inl globals) (inl tables) = inl (record { functions = functions; globals = globals; tables = tables })

-- ---- each field lies apart, or one is at fault

-- a field has its site, or none
site_or_none : (pieces : List PieceOf) (r : WasmRelocation) → Ascend 0 pieces → ((s : Site) × IsSite pieces r s) ⊎ ((s : Site) → IsSite pieces r s → ⊥)
site_or_none pieces r up = by_search (site_among pieces r) refl
  where
    by_search : (o : Option Site) → site_among pieces r ≡ o → ((s : Site) × IsSite pieces r s) ⊎ ((s : Site) → IsSite pieces r s → ⊥)
    by_search None is = inr (λ s h. absurd (let found = site_is_found pieces r s up h in cc))
    by_search (Some s) is = inl (s, site_is pieces r s is)

sites_or_none : (pieces : List PieceOf) (rs : List WasmRelocation) → Ascend 0 pieces → ((ss : List Site) × AreSites pieces rs ss) ⊎ HasNoSite pieces rs
sites_or_none pieces [] up = inl ([], tt)
sites_or_none pieces (r ∷ rs) up = by_rest (site_or_none pieces r up) (sites_or_none pieces rs up)
  where
    by_rest : ((s : Site) × IsSite pieces r s) ⊎ ((s : Site) → IsSite pieces r s → ⊥) → ((ss : List Site) × AreSites pieces rs ss) ⊎ HasNoSite pieces rs → ((ss : List Site) × AreSites pieces (r ∷ rs) ss) ⊎ HasNoSite pieces (r ∷ rs)
    by_rest (inr none) rest = inr (zero, r, refl, none)
    by_rest (inl site) (inr found) = inr (suc found.0, found.1, found.2, found.3)
    by_rest (inl site) (inl sites) = inl (site.0 ∷ sites.0, (site.1, sites.1))

before_or_not : (r q : WasmRelocation) → LiesBefore r q ⊎ (LiesBefore r q → ⊥)
before_or_not r q = elim (cases_lt q.offset (r.offset + field_len (field_form r.ty))) [
  | inl lt ↦ inr (λ before. omega arith)
  | inr le ↦ inl le
]

apart_or_overlap : (rs : List WasmRelocation) → AreApart rs ⊎ HasOverlap rs
apart_or_overlap [] = inl (λ i j d lt within. absurd (omega arith))
apart_or_overlap (r ∷ rs) = by_rest (each_or_one (LiesBefore r) (λ q. LiesBefore r q → ⊥) (before_or_not r) rs) (apart_or_overlap rs)
  where
    apart : ((j : ℕ) (q : WasmRelocation) → slice_get rs j ≡ Some q → LiesBefore r q) → AreApart rs → AreApart (r ∷ rs)
    apart first rest i zero d lt within = absurd (omega arith)
    apart first rest zero (suc j) d lt within = first j (get_or rs j d) (slice_get-get_or rs j d (omega arith))
    apart first rest (suc i) (suc j) d lt within = rest i j d (omega arith) (omega arith)

    overlap : (j : ℕ) (q : WasmRelocation) → slice_get rs j ≡ Some q → (LiesBefore r q → ⊥) → HasOverlap (r ∷ rs)
    overlap j q here late = (zero, suc j, q, omega arith, omega (arith, slice_get_within rs j q here), subst (λ (x : WasmRelocation). LiesBefore r x → ⊥) (sym (get_or_from_slice_get rs j q q here)) late)

    by_rest : ((j : ℕ) (q : WasmRelocation) → slice_get rs j ≡ Some q → LiesBefore r q) ⊎ ((j : ℕ) × (q : WasmRelocation) × (slice_get rs j ≡ Some q) × (LiesBefore r q → ⊥)) → AreApart rs ⊎ HasOverlap rs → AreApart (r ∷ rs) ⊎ HasOverlap (r ∷ rs)
    by_rest (inr found) rest = inr (overlap found.0 found.1 found.2 found.3)
    by_rest (inl first) (inr (i, j, d, lt, within, late)) = inr (suc i, suc j, d, omega arith, omega arith, late)
    by_rest (inl first) (inl rest) = inl (apart first rest)

fields_or_fault : (pieces : List PieceOf) (rs : List WasmRelocation) → Ascend 0 pieces → ((ss : List Site) × LieApart pieces rs ss) ⊎ ((e : ReadError) × FieldsFault pieces rs e)
fields_or_fault pieces rs up = by_both (sites_or_none pieces rs up) (apart_or_overlap rs)
  where
    by_both : ((ss : List Site) × AreSites pieces rs ss) ⊎ HasNoSite pieces rs → AreApart rs ⊎ HasOverlap rs → ((ss : List Site) × LieApart pieces rs ss) ⊎ ((e : ReadError) × FieldsFault pieces rs e)
    by_both (inr none) apart = inr (Malformed why.Field, none)
    by_both (inl sites) (inr overlap) = inr (Malformed why.Overlap, overlap)
    by_both (inl sites) (inl apart) = inl (sites.0, record { sited = sites.1; apart = apart })

-- ---- the object of sound sections

-- these relocations, and these places of their fields
abbrev fields : List WasmRelocation → List WasmRelocation → List Site → List Site → Fields
fields code data_ code_sites data_sites =
    record { code_relocations = code; code_sites = code_sites; data_relocations = data_; data_sites = data_sites }

-- the items fit together, or don't
abbrev FitsOrNot : List ℕ → List SectionHeader → Parts → Type 0
FitsOrNot bytes headers parts = ((o : Object) × HasItems bytes headers parts o × IsFitting o) ⊎ ((e : ReadError) × PartsFault bytes headers parts e)

-- fields of code at fault are a fault of the parts
code_fault : (bytes : List ℕ) (headers : List SectionHeader) (parts : Parts) (rs : List WasmRelocation) (e : ReadError) → AreInOrder parts.code_relocations rs → FieldsFault (map body_piece parts.bodies) rs e → PartsFault bytes headers parts e
code_fault bytes headers parts rs e order f =
    (object_of bytes headers parts (fields rs (ordered parts.data_relocations) [] []), record { items = refl; code = order; data_ = order_exists parts.data_relocations }, inr (inr (inl f)))

-- and so are fields of data
data_fault : (bytes : List ℕ) (headers : List SectionHeader) (parts : Parts) (rs : List WasmRelocation) (e : ReadError) → AreInOrder parts.data_relocations rs → FieldsFault (map segment_piece parts.segments) rs e → PartsFault bytes headers parts e
data_fault bytes headers parts rs e order f =
    (object_of bytes headers parts (fields (ordered parts.code_relocations) rs [] []), record { items = refl; code = order_exists parts.code_relocations; data_ = order }, inr (inr (inr f)))

-- and so are fields of parts that can't be settled
pub unsettled : (bytes : List ℕ) (headers : List SectionHeader) (parts : Parts) (e : ReadError) → SettlingFault parts e → PartsFault bytes headers parts e
unsettled bytes headers parts e (inl (rs, order, f)) = code_fault bytes headers parts rs e order f
unsettled bytes headers parts e (inr (rs, order, f)) = data_fault bytes headers parts rs e order f

fits_or_fault : (bytes : List ℕ) (headers : List SectionHeader) (parts : Parts) → Ascend 0 (map body_piece parts.bodies) → Ascend 0 (map segment_piece parts.segments) → FitsOrNot bytes headers parts
fits_or_fault bytes headers parts code_up data_up = by_fields (fields_or_fault (map body_piece parts.bodies) code code_up) (fields_or_fault (map segment_piece parts.segments) data' data_up)
  where
    code : List WasmRelocation
    code = ordered parts.code_relocations

    data' : List WasmRelocation
    data' = ordered parts.data_relocations

    by_names : (xs ys : List Site) → LieApart (map body_piece parts.bodies) (ordered parts.code_relocations) xs → LieApart (map segment_piece parts.segments) (ordered parts.data_relocations) ys
        → (let o = object_of bytes headers parts (fields (ordered parts.code_relocations) (ordered parts.data_relocations) xs ys) in HasItems bytes headers parts o → NamesExist o ⊎ ((e : ReadError) × NamesFault o e) → AgreeOnNames (spaces_of o) o.symbols ⊎ ((e : ReadError) × SlotFault (spaces_of o) o.symbols e) → FitsOrNot bytes headers parts)
    by_names xs ys c d items (inr f) slots = inr (f.0, (object_of bytes headers parts (fields code data' xs ys), items, inl f.1))
    by_names xs ys c d items (inl names) (inr f) = inr (f.0, (object_of bytes headers parts (fields code data' xs ys), items, inr (inl f.1)))
    by_names xs ys c d items (inl names) (inl slots) = inl (object_of bytes headers parts (fields code data' xs ys), items, record { names = names; slots = slots; code = c; data_ = d })

    by_fields : ((ss : List Site) × LieApart (map body_piece parts.bodies) (ordered parts.code_relocations) ss) ⊎ ((e : ReadError) × FieldsFault (map body_piece parts.bodies) (ordered parts.code_relocations) e)
        → ((ss : List Site) × LieApart (map segment_piece parts.segments) (ordered parts.data_relocations) ss) ⊎ ((e : ReadError) × FieldsFault (map segment_piece parts.segments) (ordered parts.data_relocations) e) → FitsOrNot bytes headers parts
    by_fields (inr f) ys = inr (f.0, code_fault bytes headers parts (ordered parts.code_relocations) f.0 (order_exists parts.code_relocations) f.1)
    by_fields (inl xs) (inr f) = inr (f.0, data_fault bytes headers parts (ordered parts.data_relocations) f.0 (order_exists parts.data_relocations) f.1)
    by_fields (inl xs) (inl ys) =
        let o = object_of bytes headers parts (fields (ordered parts.code_relocations) (ordered parts.data_relocations) xs.0 ys.0) in
        by_names xs.0 ys.0 xs.1 ys.1 (record { items = refl; code = order_exists parts.code_relocations; data_ = order_exists parts.data_relocations }) (names_or_fault o) (slots_or_fault (spaces_of o) o.symbols)

-- ---- the object of some bytes

abbrev ObjectOrFault : List ℕ → Type 0
ObjectOrFault bytes = ((o : Object) × IsObject o bytes) ⊎ ((e : ReadError) × ObjectFault e bytes)

-- bytes are an object, or have a fault
pub object_some : (bytes : List ℕ) → ObjectOrFault bytes
object_some bytes = by_frame (module_alternatives.some bytes)
  where
    by_fit : (sections : List Section) (parts : Parts) → IsModule sections bytes → AreSound sections no_parts sections parts → FitsOrNot bytes (headers_of sections) parts → ObjectOrFault bytes
    by_fit sections parts framed sound (inl (o, items, fitting)) = inl (o, record { sections = sections; framed = framed; parts = parts; sound = sound; items = items; fitting = fitting })
    by_fit sections parts framed sound (inr (e, f)) = inr (e, inr (sections, framed, inr (record { parts = parts; sound = sound; fault = f })))

    by_sections : (sections : List Section) → IsModule sections bytes → ((parts : Parts) × AreSound sections no_parts sections parts) ⊎ ((e : ReadError) × FirstItemsFault sections e) → ObjectOrFault bytes
    by_sections sections framed (inr (e, f)) = inr (e, inr (sections, framed, inl f))
    by_sections sections framed (inl (parts, sound)) =
        by_fit sections parts framed sound (fits_or_fault bytes (headers_of sections) parts (code_ascends bytes sections parts framed sound) (data_ascends bytes sections parts framed sound))

    by_frame : ((sections : List Section) × IsModule sections bytes) ⊎ ((e : ReadError) × FrameFault e bytes) → ObjectOrFault bytes
    by_frame (inr (e, f)) = inr (e, inl f)
    by_frame (inl (sections, framed)) = by_sections sections framed (sections_some sections no_parts sections)
