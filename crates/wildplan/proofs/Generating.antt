-- Objects that are made one by one.
use Rattle.std.proofs.Common.{ℕ, ◌≡◌, ◌+◌, List, [], ◌∷◌, ◌++◌, map, refl, arith}
use Rattle.std.specs.List.{range_with_len}
use Rattle.std.proofs.lemmas.List.FromFn.{map-range_with_len_more}
use Rattle.wl_generate.specs.Generated.{generated_object}

-- with one more after those so far
pub one_more : (count number : ℕ) (new old : List (List ℕ)) (object : List ℕ)
    → old ≡ map (generated_object count) (range_with_len 0 number)
    → object ≡ generated_object count number → new ≡ old ++ object ∷ []
    → new ≡ map (generated_object count) (range_with_len 0 (number + 1))
one_more count number new old object so_far made grown =
    let more = map-range_with_len_more (generated_object count) 0 number number (omega arith) in
    rw (more, grown, so_far, made) refl
