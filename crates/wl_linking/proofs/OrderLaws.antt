-- A list in order of its entries is determined by them, and so are the sites of its fields.
use Rattle.std.proofs.Common.{◌≡◌, ℕ, zero, suc, ◌<◌, ◌≤◌, Bool, true, false, cond, eqb, List, [], ◌∷◌, length, get_or, filter, Some, refl, sym, ap, subst, ◌∙◌, arith, inl, inr, eq-eqb, slice_get}
use Rattle.std.specs.List.{AllByRecursion}
use Rattle.std.specs.List.Sorted.{IsNonDecreasingBy, ties}
use Rattle.std.specs.Ordering.{nat_cmp, is_lt}
use Rattle.std.proofs.lemmas.Bool.{cases_lt, lt-ltb, le-ltb}
use Rattle.wl_bytes.specs.declared.read_error.ReadError.{ReadError}
use Rattle.wl_bytes.specs.declared.read_error.ReadError.TheVariants.{Malformed}
use Rattle.wl_bytes.specs.declared.read_error.Why.TheVariants as why
use Rattle.wl_linking.specs.Sites.{PieceOf, IsSite, AreSites, AreApart, AreInOrder, HasNoSite, HasOverlap, LieApart, FieldsFault, offset_of}
use Rattle.wl_linking.specs.Placing.{Ascend}
use Rattle.wl_custom.specs.declared.relocations.WasmRelocation.{WasmRelocation}
use Rattle.wl_linking.specs.declared.sites.Site.{Site}
use Rattle.wl_linking.proofs.SiteLaws.{site_is_found, some_is}

-- ---- one order

-- the entries of one offset tie
abbrev pub ties_with : WasmRelocation → WasmRelocation → Bool
ties_with x y = ties (λ a b. is_lt (nat_cmp (offset_of a) (offset_of b))) x y

pub tie : (x y : WasmRelocation) → x.offset ≡ y.offset → ties_with x y ≡ true
tie x y e =
    let same : eqb x.offset y.offset ≡ true = eq-eqb x.offset y.offset e in
    let other : eqb y.offset x.offset ≡ true = eq-eqb y.offset x.offset (sym e) in
    rw (le-ltb x.offset y.offset (omega (arith, e)), same, le-ltb y.offset x.offset (omega (arith, e)), other) refl

pub no_tie : (x y : WasmRelocation) → x.offset < y.offset → ties_with x y ≡ false
no_tie x y lt = rw (lt-ltb x.offset y.offset lt) refl

-- each is at least as far as the one before
abbrev pub Rises : List WasmRelocation → Type 0
Rises [] = Unit {0}
Rises (x ∷ xs) = AllByRecursion (λ (y : WasmRelocation). x.offset ≤ y.offset) xs × Rises xs

all_by_index : (P : WasmRelocation → Type 0) (xs : List WasmRelocation) → ((k : ℕ) (d : WasmRelocation) → k < length xs → P (get_or xs k d)) → AllByRecursion P xs
all_by_index P [] h = tt
all_by_index P (x ∷ xs) h = (h 0 x (omega arith), all_by_index P xs (λ k d lt. h (suc k) d (omega arith)))

rises : (xs : List WasmRelocation) → IsNonDecreasingBy offset_of xs → Rises xs
rises [] h = tt
rises (x ∷ xs) h = (
  all_by_index (λ (y : WasmRelocation). x.offset ≤ y.offset) xs (λ k d lt. h 0 (suc k) d (omega arith) (omega arith)),
  rises xs (λ i j d le lt. h (suc i) (suc j) d (omega arith) (omega arith)),
)

none_tie : (x : WasmRelocation) (ys : List WasmRelocation) → AllByRecursion (λ (y : WasmRelocation). x.offset < y.offset) ys → filter (ties_with x) ys ≡ []
none_tie x [] h = refl
none_tie x (y ∷ ys) h = rw (no_tie x y h.0) (none_tie x ys h.1)

farther : (x z : WasmRelocation) (zs : List WasmRelocation) → x.offset < z.offset → AllByRecursion (λ (y : WasmRelocation). z.offset ≤ y.offset) zs → AllByRecursion (λ (y : WasmRelocation). x.offset < y.offset) zs
farther x z [] lt h = tt
farther x z (y ∷ zs) lt h = (omega (arith, h.0), farther x z zs lt h.1)

abbrev Same : List WasmRelocation → List WasmRelocation → Type 0
Same ys zs = (x : WasmRelocation) → filter (ties_with x) ys ≡ filter (ties_with x) zs

-- the first of one isn't before all of the other
not_before : (y : WasmRelocation) (ys : List WasmRelocation) (z : WasmRelocation) (zs : List WasmRelocation) → y.offset < z.offset → Rises (z ∷ zs) → filter (ties_with y) (y ∷ ys) ≡ filter (ties_with y) (z ∷ zs) → ⊥
not_before y ys z zs lt up same =
    let none : filter (ties_with y) (z ∷ zs) ≡ [] = none_tie y (z ∷ zs) (lt, farther y z zs lt up.0) in
    let some = rw (tie y y refl) at same in
    let f = some ∙ none in
    absurd cc

tails : (x y : WasmRelocation) (ys zs : List WasmRelocation) (b : Bool) → cond b (y ∷ filter (ties_with x) ys) (filter (ties_with x) ys) ≡ cond b (y ∷ filter (ties_with x) zs) (filter (ties_with x) zs) → filter (ties_with x) ys ≡ filter (ties_with x) zs
tails x y ys zs true e = cc
tails x y ys zs false e = e

same_heads : (y z : WasmRelocation) (ys zs : List WasmRelocation) → y.offset ≡ z.offset → filter (ties_with y) (y ∷ ys) ≡ filter (ties_with y) (z ∷ zs) → y ≡ z
same_heads y z ys zs e same = let f = rw (tie y y refl, tie y z e) at same in cc

in_order_same : (ys zs : List WasmRelocation) → Rises ys → Rises zs → Same ys zs → ys ≡ zs
in_order_same [] [] up up' same = refl
in_order_same [] (z ∷ zs) up up' same = absurd (let f = rw (tie z z refl) at (same z) in cc)
in_order_same (y ∷ ys) [] up up' same = absurd (let f = rw (tie y y refl) at (same y) in cc)
in_order_same (y ∷ ys) (z ∷ zs) up up' same =
    elim (cases_lt y.offset z.offset) [
      | inl lt ↦ absurd (not_before y ys z zs lt up' (same y))
      | inr le ↦ elim (cases_lt z.offset y.offset) [
        | inl lt ↦ absurd (not_before z zs y ys lt up (sym (same z)))
        | inr le' ↦
            let first : y ≡ z = same_heads y z ys zs (omega arith) (same y) in
            let rest : Same ys zs = λ x. tails x y ys zs (ties_with x y) (subst (λ (w : WasmRelocation). filter (ties_with x) (y ∷ ys) ≡ filter (ties_with x) (w ∷ zs)) (sym first) (same x)) in
            ap (λ (w : WasmRelocation). w ∷ ys) first ∙ ap (λ (ws : List WasmRelocation). z ∷ ws) (in_order_same ys zs up.1 up'.1 rest)
      ]
    ]

-- entries have one order
pub order_one : (entries ys zs : List WasmRelocation) → AreInOrder entries ys → AreInOrder entries zs → ys ≡ zs
order_one entries ys zs h k = in_order_same ys zs (rises ys h.ascending) (rises zs k.ascending) (λ x. h.stable x ∙ sym (k.stable x))

-- ---- one site for each

-- a field lies in one place of ascending pieces
pub site_one : (pieces : List PieceOf) (r : WasmRelocation) (s t : Site) → Ascend 0 pieces → IsSite pieces r s → IsSite pieces r t → s ≡ t
site_one pieces r s t up h k = some_is s t (sym (site_is_found pieces r s up h) ∙ site_is_found pieces r t up k)

-- relocations have one list of sites
pub sites_one : (pieces : List PieceOf) (rs : List WasmRelocation) (ss ts : List Site) → Ascend 0 pieces → AreSites pieces rs ss → AreSites pieces rs ts → ss ≡ ts
sites_one pieces [] [] [] up h k = refl
sites_one pieces [] [] (t ∷ ts) up h k = absurd k
sites_one pieces [] (s ∷ ss) ts up h k = absurd h
sites_one pieces (r ∷ rs) [] ts up h k = absurd h
sites_one pieces (r ∷ rs) (s ∷ ss) [] up h k = absurd k
sites_one pieces (r ∷ rs) (s ∷ ss) (t ∷ ts) up h k =
    ap (λ (x : Site). x ∷ ss) (site_one pieces r s t up h.0 k.0) ∙ ap (λ (xs : List Site). t ∷ xs) (sites_one pieces rs ss ts up h.1 k.1)

-- ---- fields that lie apart, or a fault

-- a list that has its sites has no relocation without one
pub sited_either : (pieces : List PieceOf) (rs : List WasmRelocation) (ss : List Site) → AreSites pieces rs ss → HasNoSite pieces rs → ⊥
sited_either pieces rs ss h f = each rs ss f.0 f.1 h f.2 f.3
  where
    each : (rs : List WasmRelocation) (ss : List Site) (i : ℕ) (r : WasmRelocation) → AreSites pieces rs ss → slice_get rs i ≡ Some r → ((s : Site) → IsSite pieces r s → ⊥) → ⊥
    each [] ss i r h is none = absurd cc
    each (q ∷ rs) [] i r h is none = h
    each (q ∷ rs) (s ∷ ss) zero r h is none = none s (subst (λ (x : WasmRelocation). IsSite pieces x s) (some_is q r is) h.0)
    each (q ∷ rs) (s ∷ ss) (suc i) r h is none = each rs ss i r h.1 is none

-- fields that lie apart don't overlap
pub apart_either : (rs : List WasmRelocation) → AreApart rs → HasOverlap rs → ⊥
apart_either rs h f = f.5 (h f.0 f.1 f.2 f.3 f.4)

-- fields lie apart in one way at most
pub lie_apart_one : (pieces : List PieceOf) (rs : List WasmRelocation) (ss ts : List Site) → Ascend 0 pieces → LieApart pieces rs ss → LieApart pieces rs ts → ss ≡ ts
lie_apart_one pieces rs ss ts up h k = sites_one pieces rs ss ts up h.sited k.sited

-- fields lie apart, or have a fault, and never both
pub lie_apart_either : (pieces : List PieceOf) (rs : List WasmRelocation) (ss : List Site) (e : ReadError) → Ascend 0 pieces → LieApart pieces rs ss → FieldsFault pieces rs e → ⊥
lie_apart_either pieces rs ss (Malformed why.Field) up h f = sited_either pieces rs ss h.sited f
lie_apart_either pieces rs ss (Malformed why.Overlap) up h f = apart_either rs h.apart f
lie_apart_either pieces rs ss _ up h f = f
