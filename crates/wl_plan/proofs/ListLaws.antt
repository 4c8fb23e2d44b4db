-- Lists, side by side and by their places.
use Rattle.std.proofs.Common.{◌≡◌, ◌∙◌, ℕ, ◌<◌, List, [], ◌∷◌, ◌++◌, length, map, drop, slice_get, Some, refl, ap, arith}
use Rattle.std.specs.List.{range_with_len}
use Rattle.std.proofs.lemmas.List.FromFn.{length-map-range_with_len, get_or-map-range_with_len}
use Rattle.std.proofs.lemmas.Option.{slice_get-get_or}

-- ---- what stands at a place

-- what a function makes of the number of the place
pub of_range : {Y : Type 0} (f : ℕ → Y) (n k : ℕ) → k < n
    → slice_get (map f (range_with_len 0 n)) k ≡ Some (f k)
of_range {Y} f n k lt =
    slice_get-get_or (map f (range_with_len 0 n)) k (f k)
    (omega (arith, lt, length-map-range_with_len f 0 n))
    ∙ ap (λ (y : Y). Some y) (get_or-map-range_with_len f 0 n k k (f k) lt (omega arith))

-- after the first one of three lists
pub drop_front : {X : Type 0} (front middle back : List X)
    → drop (length front) ((front ++ middle) ++ back) ≡ middle ++ back
drop_front [] middle back = refl
drop_front (x ∷ front) middle back = drop_front front middle back
