-- Any entries have an order: each goes before the first that isn't before it.
use Rattle.std.proofs.Common.{◌≡◌, ℕ, zero, suc, ◌<◌, ◌≤◌, Bool, true, false, cond, leb, not, List, [], ◌∷◌, length, get_or, filter, refl, ap, ◌∙◌, arith, inl, inr}
use Rattle.std.proofs.Math.Bool.{and-false}
use Rattle.std.specs.List.{AllByRecursion}
use Rattle.std.specs.List.Sorted.{IsNonDecreasingBy}
use Rattle.std.specs.Ordering.{nat_cmp, is_lt}
use Rattle.std.proofs.lemmas.Bool.{cases_lt, leb-true, leb-false, lt-ltb}
use Rattle.wl_linking.specs.Sites.{AreInOrder, offset_of}
use Rattle.wl_custom.specs.declared.relocations.WasmRelocation.{WasmRelocation}
use Rattle.wl_linking.proofs.OrderLaws.{ties_with, no_tie, Rises}

-- one entry among others in order
abbrev pub put : WasmRelocation → List WasmRelocation → List WasmRelocation
put x [] = x ∷ []
put x (y ∷ ys) = cond (leb x.offset y.offset) (x ∷ y ∷ ys) (y ∷ put x ys)

-- the entries in order
abbrev pub ordered : List WasmRelocation → List WasmRelocation
ordered [] = []
ordered (x ∷ xs) = put x (ordered xs)

-- ---- ties keep their order

no_tie_back : (x y : WasmRelocation) → y.offset < x.offset → ties_with x y ≡ false
no_tie_back x y lt = rw (lt-ltb y.offset x.offset lt) (and-false (not (is_lt (nat_cmp x.offset y.offset))))

-- an entry doesn't tie with two of different offsets
one_tie : (a x y : WasmRelocation) → y.offset < x.offset → ties_with a x ≡ true → ties_with a y ≡ true → ⊥
one_tie a x y lt first second = elim (cases_lt a.offset x.offset) [
  | inl before ↦ let no = no_tie a x before in cc
  | inr behind ↦ let no = no_tie_back a y (omega arith) in cc
]

swap : (p q : Bool) (x y : WasmRelocation) (zs : List WasmRelocation) → (p ≡ true → q ≡ true → ⊥) → cond q (y ∷ cond p (x ∷ zs) zs) (cond p (x ∷ zs) zs) ≡ cond p (x ∷ cond q (y ∷ zs) zs) (cond q (y ∷ zs) zs)
swap true true x y zs h = absurd (h refl refl)
swap true false x y zs h = refl
swap false true x y zs h = refl
swap false false x y zs h = refl

put_keeps : (a x : WasmRelocation) (ys : List WasmRelocation) → filter (ties_with a) (put x ys) ≡ filter (ties_with a) (x ∷ ys)
put_keeps a x [] = refl
put_keeps a x (y ∷ ys) = by_test (leb x.offset y.offset) refl (put_keeps a x ys)
  where
    by_test : (b : Bool) → leb x.offset y.offset ≡ b → filter (ties_with a) (put x ys) ≡ filter (ties_with a) (x ∷ ys) → filter (ties_with a) (cond b (x ∷ y ∷ ys) (y ∷ put x ys)) ≡ filter (ties_with a) (x ∷ y ∷ ys)
    by_test true is more = refl
    by_test false is more =
        ap (λ (zs : List WasmRelocation). cond (ties_with a y) (y ∷ zs) zs) more ∙ swap (ties_with a x) (ties_with a y) x y (filter (ties_with a) ys) (one_tie a x y (leb-false x.offset y.offset is))

keeps : (a : WasmRelocation) (xs : List WasmRelocation) → filter (ties_with a) (ordered xs) ≡ filter (ties_with a) xs
keeps a [] = refl
keeps a (x ∷ xs) = put_keeps a x (ordered xs) ∙ ap (λ (zs : List WasmRelocation). cond (ties_with a x) (x ∷ zs) zs) (keeps a xs)

-- ---- offsets rise

abbrev AllFrom : ℕ → List WasmRelocation → Type 0
AllFrom n = AllByRecursion (λ (y : WasmRelocation). n ≤ y.offset)

all_from : (n m : ℕ) (ys : List WasmRelocation) → n ≤ m → AllFrom m ys → AllFrom n ys
all_from n m [] le h = tt
all_from n m (y ∷ ys) le h = (omega (arith, h.0), all_from n m ys le h.1)

all_put : (n : ℕ) (x : WasmRelocation) (ys : List WasmRelocation) → n ≤ x.offset → AllFrom n ys → AllFrom n (put x ys)
all_put n x [] le h = (le, tt)
all_put n x (y ∷ ys) le h = by_test (leb x.offset y.offset) (all_put n x ys le h.1)
  where
    by_test : (b : Bool) → AllFrom n (put x ys) → AllFrom n (cond b (x ∷ y ∷ ys) (y ∷ put x ys))
    by_test true more = (le, h)
    by_test false more = (h.0, more)

put_rises : (x : WasmRelocation) (ys : List WasmRelocation) → Rises ys → Rises (put x ys)
put_rises x [] h = (tt, tt)
put_rises x (y ∷ ys) h = by_test (leb x.offset y.offset) refl (put_rises x ys h.1)
  where
    by_test : (b : Bool) → leb x.offset y.offset ≡ b → Rises (put x ys) → Rises (cond b (x ∷ y ∷ ys) (y ∷ put x ys))
    by_test true is more = let le = leb-true x.offset y.offset is in ((le, all_from x.offset y.offset ys le h.0), h)
    by_test false is more = let lt = leb-false x.offset y.offset is in (all_put y.offset x ys (omega arith) h.0, more)

ordered_rises : (xs : List WasmRelocation) → Rises (ordered xs)
ordered_rises [] = tt
ordered_rises (x ∷ xs) = put_rises x (ordered xs) (ordered_rises xs)

from_at : (n j : ℕ) (d : WasmRelocation) (ys : List WasmRelocation) → AllFrom n ys → j < length ys → n ≤ (get_or ys j d).offset
from_at n j d [] h lt = absurd (omega arith)
from_at n zero d (y ∷ ys) h lt = h.0
from_at n (suc j) d (y ∷ ys) h lt = from_at n j d ys h.1 (omega arith)

rises_by_index : (xs : List WasmRelocation) → Rises xs → IsNonDecreasingBy offset_of xs
rises_by_index [] h i j d le lt = absurd (omega arith)
rises_by_index (x ∷ xs) h zero zero d le lt = omega arith
rises_by_index (x ∷ xs) h zero (suc j) d le lt = from_at x.offset j d xs h.0 (omega arith)
rises_by_index (x ∷ xs) h (suc i) zero d le lt = absurd (omega arith)
rises_by_index (x ∷ xs) h (suc i) (suc j) d le lt = rises_by_index xs h.1 i j d (omega arith) (omega arith)

-- any entries have an order
pub order_exists : (entries : List WasmRelocation) → AreInOrder entries (ordered entries)
order_exists entries = record { ascending = rises_by_index (ordered entries) (ordered_rises entries); stable = λ a. keeps a entries }
