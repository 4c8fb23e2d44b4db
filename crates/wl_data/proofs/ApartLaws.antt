-- What lies apart in one order does in every order.
use Rattle.std.proofs.Common.{◌≡◌, ◌≢◌, ◌⊎◌, inl, inr, ℕ, zero, suc, ◌<◌, ◌≤◌, Bool, true, false, List, [], ◌∷◌, length, get_or, set, refl, sym, ap, ◌∙◌, subst, arith, Some}
use Rattle.std.specs.Prelude.{slice_get, IsPermutation}
use Rattle.std.specs.List.{swap, All}
use Rattle.std.proofs.lemmas.Bool.{cases_eq, cases_lt}
use Rattle.std.proofs.lemmas.List.{length-set, get_or-set_same, get_or-set_other, get_or_default}
use Rattle.std.proofs.lemmas.Option.{slice_get-get_or}
use Rattle.std.proofs.lemmas.List.Sorted.{IsPermutation-keeps, IsPermutation-sym, All-permutation}
use Rattle.wl_data.specs.Segments.{SegmentLayout}
use Rattle.wl_data.specs.DataPlaces.{AddressRange, ComeInOrder, LieApart, addresses_of, AreSeparate, EndBy}
use Rattle.wl_data.proofs.RangeLaws.{taken, order_shares_nothing}

-- ---- ranges by their places

-- any two of them lie apart
abbrev pub AreApart : List AddressRange → Type 0
AreApart rs = (i k : ℕ) (d : AddressRange) → i ≢ k → i < length rs → k < length rs → LieApart (get_or rs i d) (get_or rs k d)

-- all of them end there or before
abbrev pub AllEndBy : ℕ → List AddressRange → Type 0
AllEndBy end rs = All (λ (r : AddressRange). r.behind ≤ end) rs

other_way : (r s : AddressRange) → LieApart r s → LieApart s r
other_way r s p = elim p [ inl x ↦ inr x | inr x ↦ inl x ]

-- what stood at j stands at k once a and b are exchanged
abbrev IsMoved : ℕ → ℕ → ℕ → ℕ → Type 0
IsMoved a b j k = ((k ≡ b) × (j ≡ a)) ⊎ (((k ≢ b) × (k ≡ a) × (j ≡ b)) ⊎ ((k ≢ b) × (k ≢ a) × (j ≡ k)))

pub record StoodAt (l m : List AddressRange) (a b k : ℕ) (d : AddressRange) : Type 0 where
  pub place : ℕ
  pub within : place < length l
  pub same : get_or m k d ≡ get_or l place d
  pub moved : IsMoved a b place k

stood : (x : AddressRange) (ys : List AddressRange) (a b k : ℕ) (d : AddressRange) → a < length (x ∷ ys) → b < length (x ∷ ys) → k < length (x ∷ ys) → StoodAt (x ∷ ys) (swap (x ∷ ys) a b) a b k d
stood x ys a b k d p q lt =
    let l : List AddressRange = x ∷ ys in
    let w : List AddressRange = set l a (get_or l b x) in
    let long : length w ≡ length l = length-set l a (get_or l b x) in
    elim (cases_eq k b) [
      | inl e ↦ record {
        place = a;
        within = p;
        same = ap (λ (n : ℕ). get_or (set w b (get_or l a x)) n d) e ∙ get_or-set_same w b (get_or l a x) d (omega arith) ∙ get_or_default l a x d p;
        moved = inl (e, refl);
      }
      | inr n ↦ elim (cases_eq k a) [
        | inl e ↦ record {
          place = b;
          within = q;
          same = get_or-set_other w b k (get_or l a x) d n ∙ ap (λ (m : ℕ). get_or w m d) e ∙ get_or-set_same l a (get_or l b x) d p ∙ get_or_default l b x d q;
          moved = inr (inl (n, e, refl));
        }
        | inr o ↦ record {
          place = k;
          within = lt;
          same = get_or-set_other w b k (get_or l a x) d n ∙ get_or-set_other l a k (get_or l b x) d o;
          moved = inr (inr (n, o, refl));
        }
      ]
    ]

moved_apart : (a b i j k m : ℕ) → i ≢ k → IsMoved a b j i → IsMoved a b m k → j ≢ m
moved_apart a b i j k m ne p q = grind arith

swapped_apart : (l : List AddressRange) (a b : ℕ) → a < length l → b < length l → AreApart l → AreApart (swap l a b)
swapped_apart [] a b p q h i k d ne x y = absurd (omega arith)
swapped_apart (z ∷ ys) a b p q h i k d ne x y =
    let l : List AddressRange = z ∷ ys in
    let w : List AddressRange = set l a (get_or l b z) in
    let long : length (swap l a b) ≡ length l = length-set w b (get_or l a z) ∙ length-set l a (get_or l b z) in
    let one = stood z ys a b i d p q (omega arith) in
    let two = stood z ys a b k d p q (omega arith) in
    rw (one.same, two.same) (h one.place two.place d (moved_apart a b i one.place k two.place ne one.moved two.moved) one.within two.within)

pub mixed_apart : (xs ys : List AddressRange) → IsPermutation xs ys → AreApart ys → AreApart xs
mixed_apart xs ys p h = IsPermutation-keeps ys AreApart h swapped_apart xs (IsPermutation-sym xs ys p)

pub mixed_end : (end : ℕ) (xs ys : List AddressRange) → IsPermutation xs ys → AllEndBy end ys → AllEndBy end xs
mixed_end end xs ys p h = All-permutation (λ (r : AddressRange). r.behind ≤ end) ys xs (IsPermutation-sym xs ys p) h

-- ---- what comes in order

order_end : (a : ℕ) (rs : List AddressRange) (b : ℕ) → ComeInOrder a rs b → a ≤ b
order_end a [] b p = p
order_end a (r ∷ rs) b p = omega (arith, p.0, p.1, order_end r.behind rs b p.2)

pub order_ends : (a : ℕ) (rs : List AddressRange) (b : ℕ) → ComeInOrder a rs b → AllEndBy b rs
order_ends a [] b p k d lt = absurd (omega arith)
order_ends a (r ∷ rs) b p zero d lt = order_end r.behind rs b p.2
order_ends a (r ∷ rs) b p (suc k) d lt = order_ends r.behind rs b p.2 k d (omega arith)

pub order_apart : (a : ℕ) (rs : List AddressRange) (b : ℕ) → ComeInOrder a rs b → AreApart rs
order_apart a rs b p i k d ne x y =
    let one = slice_get-get_or rs i d x in
    let two = slice_get-get_or rs k d y in
    elim (cases_lt i k) [
      | inl lt ↦ inl (order_shares_nothing a rs b p i k (get_or rs i d) (get_or rs k d) lt one two)
      | inr ge ↦ inr (order_shares_nothing a rs b p k i (get_or rs k d) (get_or rs i d) (omega arith) two one)
    ]

-- ---- segments by their places

-- the range of a segment that passes the test
pub record IsTaken (test : SegmentLayout → Bool) (ls : List SegmentLayout) (m : SegmentLayout) : Type 0 where
  pub place : ℕ
  pub within : place < length (taken test ls)
  pub is : (d : AddressRange) → get_or (taken test ls) place d ≡ addresses_of m

standing : (test : SegmentLayout → Bool) (ls : List SegmentLayout) (k : ℕ) (m : SegmentLayout) → slice_get ls k ≡ Some m → test m ≡ true → IsTaken test ls m
standing test [] k m e t = absurd cc
standing test (l ∷ ls) zero m e t = at (test l) refl
  where
    same : l ≡ m
    same = cc

    at : (b : Bool) → test l ≡ b → IsTaken test (l ∷ ls) m
    at true z = record { place = zero; within = rw z (omega arith); is = λ d. rw z (ap addresses_of same) }
    at false z = absurd (let bad : true ≡ false = sym t ∙ ap test (sym same) ∙ z in cc)
standing test (l ∷ ls) (suc k) m e t = at (test l) refl (standing test ls k m e t)
  where
    at : (b : Bool) → test l ≡ b → IsTaken test ls m → IsTaken test (l ∷ ls) m
    at true z r = record { place = suc r.place; within = rw z (omega (arith, r.within)); is = λ d. rw z (r.is d) }
    at false z r = record { place = r.place; within = rw z r.within; is = λ d. rw z (r.is d) }

first_apart : (test : SegmentLayout → Bool) (x : SegmentLayout) (ls : List SegmentLayout) (k : ℕ) (m : SegmentLayout) → AreApart (taken test (x ∷ ls)) → slice_get ls k ≡ Some m → test x ≡ true → test m ≡ true → LieApart (addresses_of x) (addresses_of m)
first_apart test x ls k m h f s t =
    let all : AreApart (addresses_of x ∷ taken test ls) = rw s at h in
    let r = standing test ls k m f t in
    let got : LieApart (addresses_of x) (get_or (taken test ls) r.place (addresses_of x)) = all zero (suc r.place) (addresses_of x) (omega arith) (omega arith) (omega (arith, r.within)) in
    subst (λ (y : AddressRange). LieApart (addresses_of x) y) (r.is (addresses_of x)) got

rest_apart : (r : AddressRange) (rs : List AddressRange) → AreApart (r ∷ rs) → AreApart rs
rest_apart r rs h i k d ne x y = h (suc i) (suc k) d (omega arith) (omega arith) (omega arith)

taken_rest : (test : SegmentLayout → Bool) (x : SegmentLayout) (ls : List SegmentLayout) → AreApart (taken test (x ∷ ls)) → AreApart (taken test ls)
taken_rest test x ls h = at (test x) refl
  where
    at : (b : Bool) → test x ≡ b → AreApart (taken test ls)
    at true z = rest_apart (addresses_of x) (taken test ls) (rw z at h)
    at false z = rw z at h

pub separate : (test : SegmentLayout → Bool) (ls : List SegmentLayout) → AreApart (taken test ls) → AreSeparate test ls
separate test [] h i k l m ne e f s t = absurd cc
separate test (x ∷ ls) h zero zero l m ne e f s t = absurd (omega arith)
separate test (x ∷ ls) h zero (suc k) l m ne e f s t =
    let same : x ≡ l = cc in
    subst (λ (y : SegmentLayout). LieApart (addresses_of y) (addresses_of m)) same (first_apart test x ls k m h f (rw same s) t)
separate test (x ∷ ls) h (suc i) zero l m ne e f s t =
    let same : x ≡ m = cc in
    subst (λ (y : SegmentLayout). LieApart (addresses_of l) (addresses_of y)) same (other_way (addresses_of x) (addresses_of l) (first_apart test x ls i l h e (rw same t) s))
separate test (x ∷ ls) h (suc i) (suc k) l m ne e f s t = separate test ls (taken_rest test x ls h) i k l m (omega arith) e f s t

pub ends : (test : SegmentLayout → Bool) (end : ℕ) (ls : List SegmentLayout) → AllEndBy end (taken test ls) → EndBy test end ls
ends test end ls h i l e t =
    let r = standing test ls i l e t in
    subst (λ (y : AddressRange). y.behind ≤ end) (r.is (addresses_of l)) (h r.place (addresses_of l) r.within)
