-- Questions on the segments of all objects.
use Rattle.std.proofs.Common.{◌≡◌, ℕ, ◌+◌, ◌<◌, ◌≤◌, Bool, true, false, cond, List, [], ◌∷◌, ◌++◌, length, refl, ap, ◌∙◌, arith, take, get_or, max}
use Rattle.std.specs.Prelude.{filter}
use Rattle.std.proofs.lemmas.List.{take_more}
use Rattle.std.proofs.lemmas.List.Elements.{filter-append}
use Rattle.wl_data.specs.Segments.{KeptData}
use Rattle.wl_data.specs.Layouts.{tls_alignment_of}
use Rattle.wl_data.specs.DataPlaces.{greatest_alignment, is_thread_local, in_one_row}
use Rattle.wl_data.proofs.ObjectLaws.{row_more}

-- ---- the greatest alignment

pub some_greatest : (xs : List KeptData) → 1 ≤ greatest_alignment xs
some_greatest [] = omega arith
some_greatest (x ∷ xs) = omega (arith, some_greatest xs)

greatest_append : (xs ys : List KeptData) → greatest_alignment (xs ++ ys) ≡ max (greatest_alignment ys) (greatest_alignment xs)
greatest_append [] ys = omega (arith, some_greatest ys)
greatest_append (x ∷ xs) ys = omega (arith, greatest_append xs ys)

greatest_tls : (xs ys : List KeptData) → greatest_alignment (filter is_thread_local (xs ++ ys)) ≡ max (greatest_alignment (filter is_thread_local ys)) (greatest_alignment (filter is_thread_local xs))
greatest_tls xs ys = ap greatest_alignment (filter-append is_thread_local xs ys) ∙ greatest_append (filter is_thread_local xs) (filter is_thread_local ys)

pub greatest_more : (segments : List KeptData) (i : ℕ) (s : KeptData) → i < length segments → s ≡ get_or segments i s
    → greatest_alignment (filter is_thread_local (take (i + 1) segments)) ≡ max (tls_alignment_of s) (greatest_alignment (filter is_thread_local (take i segments)))
greatest_more segments i s lt is = rw (take_more segments i s lt, ← is) (greatest_tls (take i segments) (s ∷ []) ∙ at s.tls (greatest_alignment (filter is_thread_local (take i segments))) (some_greatest (filter is_thread_local (take i segments))))
  where
    at : (b : Bool) (g : ℕ) → 1 ≤ g → max (greatest_alignment (cond b (s ∷ []) [])) g ≡ max (cond b s.alignment 1) g
    at true g h = omega arith
    at false g h = refl

pub greatest_more_row : (objects : List (List KeptData)) (i : ℕ) (o : List KeptData) → i < length objects → o ≡ get_or objects i o
    → greatest_alignment (filter is_thread_local (in_one_row (take (i + 1) objects))) ≡ max (greatest_alignment (filter is_thread_local o)) (greatest_alignment (filter is_thread_local (in_one_row (take i objects))))
greatest_more_row objects i o lt is = ap (λ (xs : List KeptData). greatest_alignment (filter is_thread_local xs)) (row_more objects i o lt is) ∙ greatest_tls (in_one_row (take i objects)) o
