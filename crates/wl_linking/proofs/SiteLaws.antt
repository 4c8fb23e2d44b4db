-- Where the fields of relocations lie: each in one piece at most.
use Rattle.std.proofs.Common.{◌≡◌, ℕ, zero, suc, ◌+◌, ◌-◌, ◌<◌, ◌≤◌, Bool, true, false, leb, List, [], ◌∷◌, ◌++◌, length, take, drop, get_or, Option, Some, None, refl, sym, ap, subst, ◌∙◌, arith, inl, inr, add-one, slice_get, ◌&&◌}
use Rattle.std.proofs.Math.Seq.{take-suc}
use Rattle.std.proofs.lemmas.Bool.{leb-true, le-leb, lt-leb, eqb-true, and_parts}
use Rattle.std.proofs.lemmas.List.{length-take, length-drop, get_or_default}
use Rattle.std.specs.List.Sorted.{IsNonDecreasingBy}
use Rattle.std.proofs.lemmas.Option.{slice_get-get_or}
use Rattle.wl_bytes.proofs.Steps.{chosen}
use Rattle.wl_custom.specs.RelocationTypes.{field_form}
use Rattle.wl_linking.specs.Sites.{PieceOf, IsSite, AreSites, AreApart, LiesBefore, HasNoSite, is_padded, has_form, field_len, offset_of}
use Rattle.wl_linking.specs.Placing.{piece_end, Ascend, position_of, site_in, site_of}
use Rattle.wl_custom.specs.declared.relocation_type.FieldForm.{FieldForm}
use Rattle.wl_custom.specs.declared.relocation_type.FieldForm.TheVariants.{PaddedUnsigned, PaddedSigned, Word}
use Rattle.wl_custom.specs.declared.relocations.WasmRelocation.{WasmRelocation}
use Rattle.wl_linking.specs.declared.sites.Site.{Site}

-- ---- fields that don't overlap

pub apart_from_neighbours : (rs : List WasmRelocation) (end : ℕ) → IsNonDecreasingBy offset_of rs → length rs ≤ end
    → ((k : ℕ) (d : WasmRelocation) → k + 1 < end → LiesBefore (get_or rs k d) (get_or rs (k + 1) d)) → AreApart rs
apart_from_neighbours rs end order all near i j d lt in_range =
    let next : LiesBefore (get_or rs i d) (get_or rs (i + 1) d) = near i d (omega arith) in
    let after : (get_or rs (i + 1) d).offset ≤ (get_or rs j d).offset = order (i + 1) j d (omega arith) in_range in
    omega (arith, next, after)

-- ---- the site of a field

-- a field of that form lies at that place of the piece
abbrev pub LiesIn : PieceOf → FieldForm → ℕ → Type 0
LiesIn piece form position = has_form form (take (field_len form) (drop position piece.bytes)) ≡ true

-- the same as a site, among pieces the first of which has that number
record SiteFrom (unit : ℕ) (pieces : List PieceOf) (form : FieldForm) (offset : ℕ) (s : Site) : Type 0 where
  pub k : ℕ
  pub number : s.unit ≡ unit + k
  pub piece : PieceOf
  pub here : slice_get pieces k ≡ Some piece
  pub place : piece.place + s.position ≡ offset
  pub field : LiesIn piece form s.position

-- a number that is padded isn't cut off
padded_len : (text : List ℕ) → is_padded text ≡ true → length text ≡ 5
padded_len [] h = absurd cc
padded_len (a ∷ []) h = absurd cc
padded_len (a ∷ b ∷ []) h = absurd cc
padded_len (a ∷ b ∷ c ∷ []) h = absurd cc
padded_len (a ∷ b ∷ c ∷ d ∷ []) h = absurd cc
padded_len (a ∷ b ∷ c ∷ d ∷ e ∷ []) h = refl
padded_len (a ∷ b ∷ c ∷ d ∷ e ∷ f ∷ rest) h = absurd cc

-- a field isn't cut off
pub form_len : (form : FieldForm) (text : List ℕ) → has_form form text ≡ true → length text ≡ field_len form
form_len PaddedUnsigned text h = padded_len text h
form_len PaddedSigned text h = padded_len text h
form_len Word text h = eqb-true (length text) 4 h

-- a field has some bytes
pub field_len_min : (form : FieldForm) → 4 ≤ field_len form
field_len_min PaddedUnsigned = omega arith
field_len_min PaddedSigned = omega arith
field_len_min Word = omega arith

abbrev pub some : {X : Type 0} → X → Option X
some x = Some x

pub some_is : {X : Type 0} (x y : X) → some x ≡ Some y → x ≡ y
some_is x y e = cc

-- a position that is found holds the field
position_found : (piece : PieceOf) (form : FieldForm) (offset position : ℕ) → position_of piece form offset ≡ Some position → (piece.place + position ≡ offset) × LiesIn piece form position
position_found piece form offset position e =
    let before : Bool = leb piece.place offset in
    let holds : Bool = has_form form (take (field_len form) (drop (offset - piece.place) piece.bytes)) in
    elim (chosen (before && holds) (Some (offset - piece.place)) None (Some position) e) [
      | inl h ↦
          let same = some_is (offset - piece.place) position h.1 in
          let le = leb-true piece.place offset (and_parts before holds h.0).0 in
          (omega (arith, le, same), subst (λ (n : ℕ). LiesIn piece form n) same (and_parts before holds h.0).1)
      | inr h ↦ absurd (let f = h.1 in cc)
    ]

-- a field that lies in the piece is found there
position_again : (piece : PieceOf) (form : FieldForm) (offset position : ℕ) → piece.place + position ≡ offset → LiesIn piece form position → position_of piece form offset ≡ Some position
position_again piece form offset position place field =
    let le : leb piece.place offset ≡ true = le-leb piece.place offset (omega (arith, place)) in
    let same : offset - piece.place ≡ position = omega (arith, place) in
    rw (le, same, field) refl

-- a field ends in its piece
pub field_ends : (piece : PieceOf) (form : FieldForm) (position : ℕ) → LiesIn piece form position → position + field_len form ≤ length piece.bytes
field_ends piece form position field =
    let len = form_len form (take (field_len form) (drop position piece.bytes)) field in
    let some = field_len_min form in
    omega (arith, len, some, length-take (field_len form) (drop position piece.bytes), length-drop position piece.bytes)

-- so the piece doesn't end before it
ends_behind : (piece : PieceOf) (form : FieldForm) (offset position : ℕ) → piece.place + position ≡ offset → LiesIn piece form position → leb (piece_end piece) offset ≡ false
ends_behind piece form offset position place field =
    lt-leb (piece_end piece) offset (omega (arith, place, field_ends piece form position field, field_len_min form))

site_here : (unit : ℕ) (piece : PieceOf) (pieces : List PieceOf) (form : FieldForm) (offset : ℕ) (s : Site) (o : Option ℕ) → position_of piece form offset ≡ o → site_in unit o ≡ Some s → SiteFrom unit (piece ∷ pieces) form offset s
site_here unit piece pieces form offset s None is e = absurd cc
site_here unit piece pieces form offset s (Some position) is e =
    let h = position_found piece form offset position is in
    let t : Site = record { unit = unit; position = position } in
    subst (λ (x : Site). SiteFrom unit (piece ∷ pieces) form offset x) (some_is t s e) (record { k = 0; number = omega arith; piece = piece; here = refl; place = h.0; field = h.1 })

site_found : (unit : ℕ) (pieces : List PieceOf) (form : FieldForm) (offset : ℕ) (s : Site) → site_of unit pieces form offset ≡ Some s → SiteFrom unit pieces form offset s
site_found unit [] form offset s e = absurd cc
site_found unit (piece ∷ pieces) form offset s e =
    elim (chosen (leb (piece_end piece) offset) (site_of (unit + 1) pieces form offset) (site_in unit (position_of piece form offset)) (Some s) e) [
      | inl h ↦
          let t = site_found (unit + 1) pieces form offset s h.1 in
          record { k = suc t.k; number = omega (arith, t.number); piece = t.piece; here = t.here; place = t.place; field = t.field }
      | inr h ↦ site_here unit piece pieces form offset s (position_of piece form offset) refl h.1
    ]

-- pieces one after another: one after a place begins there or later
begins_behind : (place : ℕ) (pieces : List PieceOf) (k : ℕ) (piece : PieceOf) → Ascend place pieces → slice_get pieces k ≡ Some piece → place ≤ piece.place
begins_behind place [] k piece h is = absurd cc
begins_behind place (p ∷ pieces) zero piece h is = let same = some_is p piece is in rw (← same) h.0
begins_behind place (p ∷ pieces) (suc k) piece h is =
    let more = begins_behind (piece_end p) pieces k piece h.1 is in omega (arith, more, h.0)

site_again : (unit place : ℕ) (pieces : List PieceOf) (form : FieldForm) (offset k position : ℕ) (piece : PieceOf) → Ascend place pieces → slice_get pieces k ≡ Some piece → piece.place + position ≡ offset
    → LiesIn piece form position → site_of unit pieces form offset ≡ Some (record { unit = unit + k; position = position })
site_again unit place [] form offset k position piece h is at field = absurd cc
site_again unit place (p ∷ pieces) form offset zero position piece h is at field =
    let same = some_is p piece is in
    let at' : p.place + position ≡ offset = rw same at in
    let field' : LiesIn p form position = subst (λ (q : PieceOf). LiesIn q form position) (sym same) field in
    let zero_more : unit + 0 ≡ unit = omega arith in
    rw (ends_behind p form offset position at' field', position_again p form offset position at' field', zero_more) refl
site_again unit place (p ∷ pieces) form offset (suc k) position piece h is at field =
    let behind = begins_behind (piece_end p) pieces k piece h.1 is in
    let passes : leb (piece_end p) offset ≡ true = le-leb (piece_end p) offset (omega (arith, behind, at)) in
    let number : unit + suc k ≡ (unit + 1) + k = omega arith in
    rw (passes, number) (site_again (unit + 1) (piece_end p) pieces form offset k position piece h.1 is at field)

-- what is found for one field serves the later ones, whatever their form
site_later : (unit : ℕ) (pieces : List PieceOf) (form form' : FieldForm) (offset later : ℕ) (s : Site) → site_of unit pieces form offset ≡ Some s → offset ≤ later
    → (unit ≤ s.unit) × (site_of unit pieces form' later ≡ site_of s.unit (drop (s.unit - unit) pieces) form' later)
site_later unit [] form form' offset later s e le = absurd cc
site_later unit (piece ∷ pieces) form form' offset later s e le =
    elim (chosen (leb (piece_end piece) offset) (site_of (unit + 1) pieces form offset) (site_in unit (position_of piece form offset)) (Some s) e) [
      | inl h ↦
          let rest = site_later (unit + 1) pieces form form' offset later s h.1 le in
          let passes : leb (piece_end piece) later ≡ true = le-leb (piece_end piece) later (omega (arith, leb-true (piece_end piece) offset h.0)) in
          let fewer : s.unit - unit ≡ suc (s.unit - (unit + 1)) = omega (arith, rest.0) in
          (omega (arith, rest.0), rw (passes, fewer) rest.1)
      | inr h ↦
          let same = here (position_of piece form offset) h.1 in
          let none : s.unit - unit ≡ 0 = omega (arith, same) in
          (omega (arith, same), rw (none, same) refl)
    ]
  where
    here : (o : Option ℕ) → site_in unit o ≡ Some s → s.unit ≡ unit
    here None e = absurd cc
    here (Some position) e = let t : Site = record { unit = unit; position = position } in ap (λ (x : Site). x.unit) (sym (some_is t s e))

-- ---- the loop over the relocations

sites_push : (pieces : List PieceOf) (rs : List WasmRelocation) (ss : List Site) (r : WasmRelocation) (s : Site) → AreSites pieces rs ss → IsSite pieces r s → AreSites pieces (rs ++ r ∷ []) (ss ++ s ∷ [])
sites_push pieces [] [] r s h i = (i, tt)
sites_push pieces [] (x ∷ ss) r s h i = absurd h
sites_push pieces (q ∷ rs) [] r s h i = absurd h
sites_push pieces (q ∷ rs) (x ∷ ss) r s h i = (h.0, sites_push pieces rs ss r s h.1 i)

-- where the search from a piece on finds the field of r
abbrev pub site_from : ℕ → List PieceOf → WasmRelocation → Option Site
site_from unit pieces r = site_of unit (drop unit pieces) (field_form r.ty) r.offset

-- where the search among all pieces finds it
abbrev pub site_among : List PieceOf → WasmRelocation → Option Site
site_among pieces r = site_of 0 pieces (field_form r.ty) r.offset

-- the relocations that have their sites, and where the search for the next one begins
pub record PlacesOn (pieces : List PieceOf) (rs : List WasmRelocation) (i unit : ℕ) (sites : List Site) : Type 0 where
  pub sited : AreSites pieces (take i rs) sites
  pub later : (j : ℕ) (d : WasmRelocation) → i ≤ j → j < length rs → site_from unit pieces (get_or rs j d) ≡ site_among pieces (get_or rs j d)

-- a site that is found is one
pub site_is : (pieces : List PieceOf) (r : WasmRelocation) (s : Site) → site_among pieces r ≡ Some s → IsSite pieces r s
site_is pieces r s e =
    let t = site_found 0 pieces (field_form r.ty) r.offset s e in
    let number : s.unit ≡ t.k = omega (arith, t.number) in
    record { piece = t.piece; here = subst (λ (n : ℕ). slice_get pieces n ≡ Some t.piece) (sym number) t.here; place = t.place; field = t.field }

-- a site that is one is found
pub site_is_found : (pieces : List PieceOf) (r : WasmRelocation) (s : Site) → Ascend 0 pieces → IsSite pieces r s → site_among pieces r ≡ Some s
site_is_found pieces r s ascend h =
    let number : 0 + s.unit ≡ s.unit = omega arith in
    site_again 0 0 pieces (field_form r.ty) r.offset s.unit s.position h.piece ascend h.here h.place h.field ∙ rw number refl

-- what the search for a field of the form of r finds
of_its_form : (unit : ℕ) (pieces : List PieceOf) (r : WasmRelocation) (form : FieldForm) (o : Option Site) → form ≡ field_form r.ty → site_of unit (drop unit pieces) form r.offset ≡ o → site_from unit pieces r ≡ o
of_its_form unit pieces r form o is e = subst (λ (f : FieldForm). site_of unit (drop unit pieces) f r.offset ≡ o) is e

pub places_more : (pieces : List PieceOf) (rs : List WasmRelocation) (i unit : ℕ) (d : WasmRelocation) (sites : List Site) (s : Site) (form : FieldForm) → IsNonDecreasingBy offset_of rs → i < length rs
    → PlacesOn pieces rs i unit sites → form ≡ field_form (get_or rs i d).ty → site_of unit (drop unit pieces) form (get_or rs i d).offset ≡ Some s → PlacesOn pieces rs (i + 1) s.unit (sites ++ s ∷ [])
places_more pieces rs i unit d sites s form order lt h is e =
    let r : WasmRelocation = get_or rs i d in
    let from_start : site_among pieces r ≡ Some s = sym (h.later i d (omega arith) lt) ∙ of_its_form unit pieces r form (Some s) is e in
    record {
      sited = rw (add-one, take-suc rs i d) (sites_push pieces (take i rs) sites r s h.sited (site_is pieces r s from_start));
      later = λ j f le in_range.
          let same : get_or rs j f ≡ get_or rs j d = get_or_default rs j f d in_range in
          let q : WasmRelocation = get_or rs j d in
          let rises : r.offset ≤ q.offset = order i j d (omega arith) in_range in
          let later = site_later 0 pieces (field_form r.ty) (field_form q.ty) r.offset q.offset s from_start rises in
          let all : s.unit - 0 ≡ s.unit = omega arith in
          rw same (sym (later.1 ∙ rw all refl));
    }

pub no_site : (pieces : List PieceOf) (rs : List WasmRelocation) (i unit : ℕ) (d : WasmRelocation) (sites : List Site) (form : FieldForm) → Ascend 0 pieces → i < length rs
    → PlacesOn pieces rs i unit sites → form ≡ field_form (get_or rs i d).ty → site_of unit (drop unit pieces) form (get_or rs i d).offset ≡ None → HasNoSite pieces rs
no_site pieces rs i unit d sites form ascend lt h is e =
    let r : WasmRelocation = get_or rs i d in
    let none : site_among pieces r ≡ None = sym (h.later i d (omega arith) lt) ∙ of_its_form unit pieces r form None is e in
    (i, r, slice_get-get_or rs i d lt, λ s site. absurd (let found = site_is_found pieces r s ascend site in cc))
