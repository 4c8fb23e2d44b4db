-- Stretches in a row.
use Rattle.std.proofs.Common.{◌≡◌, ℕ, ◌+◌, ◌<◌, ◌≤◌, List, [], ◌∷◌, ◌++◌, map, refl, sym, ap, ◌∙◌, subst, arith, ◌%◌, zero, suc, Some}
use Rattle.std.specs.Prelude.{slice_get}
use Rattle.wl_data.specs.Spans.{IsLeastAligned, Span, AreInRow, IsApart}
use Rattle.wl_data.proofs.Multiples.{least_one}

pub row_append : (a : ℕ) (xs ys : List Span) (b c : ℕ) → AreInRow a xs b → AreInRow b ys c → AreInRow a (xs ++ ys) c
row_append a [] ys b c e r = rw (← e) r
row_append a (x ∷ xs) ys b c row r = (row.0, row_append (x.place + x.size) xs ys b c row.1 r)

-- what a stretch asks for
pub record Need : Type 0 where
  pub alignment : ℕ
  pub size : ℕ

abbrev pub need_of : Span → Need
need_of s = record { alignment = s.alignment; size = s.size }

span_is : (x y : Span) → x.alignment ≡ y.alignment → x.size ≡ y.size → x.place ≡ y.place → x ≡ y
span_is x y p q r =
    let from : ℕ → ℕ → ℕ → Span = λ a n b. record { alignment = a; size = n; place = b } in
    ap (λ (a : ℕ). from a x.size x.place) p ∙ ap (λ (n : ℕ). from y.alignment n x.place) q ∙ ap (λ (b : ℕ). from y.alignment y.size b) r

-- what the stretches ask for decides where they stand
pub row_one : (a : ℕ) (xs ys : List Span) (b c : ℕ) → map need_of xs ≡ map need_of ys → AreInRow a xs b → AreInRow a ys c → (xs ≡ ys) × (b ≡ c)
row_one a [] [] b c e r s = (refl, r ∙ sym s)
row_one a [] (y ∷ ys) b c e r s = absurd cc
row_one a (x ∷ xs) [] b c e r s = absurd cc
row_one a (x ∷ xs) (y ∷ ys) b c e r s =
    let n : need_of x ≡ need_of y = cc in
    let al : x.alignment ≡ y.alignment = ap (λ (k : Need). k.alignment) n in
    let si : x.size ≡ y.size = ap (λ (k : Need). k.size) n in
    let first : IsLeastAligned x.alignment a y.place = rw al s.0 in
    let pl : x.place ≡ y.place = least_one x.alignment a x.place y.place r.0 first in
    let rest : map need_of xs ≡ map need_of ys = cc in
    let next : AreInRow (x.place + x.size) ys c = rw (pl, si) s.1 in
    let both = row_one (x.place + x.size) xs ys b c rest r.1 next in
    let same : x ≡ y = span_is x y al si pl in
    let rests = both.0 in
    (cc, both.1)

-- ---- rows are apart

pub row_grows : (start end : ℕ) (row : List Span) → AreInRow start row end → start ≤ end
row_grows start end [] e = omega arith
row_grows start end (x ∷ row) r = omega (arith, r.0.past, row_grows (x.place + x.size) end row r.1)

aligned_at : (start end : ℕ) (row : List Span) → AreInRow start row end → (k : ℕ) (s : Span) → slice_get row k ≡ Some s → s.place % s.alignment ≡ 0
aligned_at start end [] r k s e = absurd cc
aligned_at start end (x ∷ row) r zero s e = let same : x ≡ s = cc in subst (λ (y : Span). y.place % y.alignment ≡ 0) same r.0.multiple
aligned_at start end (x ∷ row) r (suc k) s e = aligned_at (x.place + x.size) end row r.1 k s e

behind_at : (start end : ℕ) (row : List Span) → AreInRow start row end → (k : ℕ) (s : Span) → slice_get row k ≡ Some s → start ≤ s.place
behind_at start end [] r k s e = absurd cc
behind_at start end (x ∷ row) r zero s e = let same : x ≡ s = cc in subst (λ (y : Span). start ≤ y.place) same r.0.past
behind_at start end (x ∷ row) r (suc k) s e = omega (arith, r.0.past, behind_at (x.place + x.size) end row r.1 k s e)

before_at : (start end : ℕ) (row : List Span) → AreInRow start row end → (k : ℕ) (s : Span) → slice_get row k ≡ Some s → s.place + s.size ≤ end
before_at start end [] r k s e = absurd cc
before_at start end (x ∷ row) r zero s e = let same : x ≡ s = cc in subst (λ (y : Span). y.place + y.size ≤ end) same (row_grows (x.place + x.size) end row r.1)
before_at start end (x ∷ row) r (suc k) s e = before_at (x.place + x.size) end row r.1 k s e

apart_at : (start end : ℕ) (row : List Span) → AreInRow start row end → (i k : ℕ) (s t : Span) → i < k → slice_get row i ≡ Some s → slice_get row k ≡ Some t → s.place + s.size ≤ t.place
apart_at start end [] r i k s t lt e f = absurd cc
apart_at start end (x ∷ row) r zero zero s t lt e f = absurd (omega arith)
apart_at start end (x ∷ row) r zero (suc k) s t lt e f = let same : x ≡ s = cc in subst (λ (y : Span). y.place + y.size ≤ t.place) same (behind_at (x.place + x.size) end row r.1 k t f)
apart_at start end (x ∷ row) r (suc i) zero s t lt e f = absurd (omega arith)
apart_at start end (x ∷ row) r (suc i) (suc k) s t lt e f = apart_at (x.place + x.size) end row r.1 i k s t (omega arith) e f

pub row_is_apart : (start end : ℕ) (row : List Span) → AreInRow start row end → IsApart start row end
row_is_apart start end row r = record {
  aligned = aligned_at start end row r;
  behind = behind_at start end row r;
  before = before_at start end row r;
  apart = apart_at start end row r;
}
