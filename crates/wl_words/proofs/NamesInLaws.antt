-- Names between commas.
use Rattle.std.proofs.Common.{append_assoc, sym, ◌≡◌, ◌<◌, ℕ, List, [], ◌∷◌, ◌++◌, length, refl, ap, ◌∙◌, arith}
use Rattle.std.specs.List.{position_or_len, before_first, after_first, slice_split}
use Rattle.std.proofs.lemmas.List.Splits.{slice_split_none, slice_split_first}
use Rattle.std.proofs.lemmas.List.Sums.{fails_before_first}
use Rattle.std.proofs.lemmas.Bool.{lt-ltb}
use Rattle.wl_words.specs.Texts.{nonempty}
use Rattle.wl_words.specs.Values.{is_comma, names_in}

filled_more : (name : List ℕ) (names : List (List ℕ)) → nonempty (name ∷ names) ≡ nonempty (name ∷ []) ++ nonempty names
filled_more [] names = refl
filled_more (byte ∷ name) names = rw (lt-ltb 0 (length (byte ∷ name)) (omega arith)) refl

-- up to the first comma, and after it
pub names_split : (rest : List ℕ) → position_or_len is_comma rest < length rest → names_in rest ≡ nonempty (before_first is_comma rest ∷ []) ++ names_in (after_first is_comma rest)
names_split rest some = ap nonempty (slice_split_first is_comma rest 0 some) ∙ filled_more (before_first is_comma rest) (slice_split is_comma (after_first is_comma rest))

-- after the last comma
pub names_last : (rest : List ℕ) → position_or_len is_comma rest ≡ length rest → names_in rest ≡ nonempty (rest ∷ [])
names_last rest none = ap nonempty (slice_split_none is_comma rest (λ k d below. fails_before_first is_comma rest k d (omega (arith, none, below))))

-- one more name is put after the others
pub names_step : (names new : List (List ℕ)) (value rest name behind : List ℕ) → new ≡ names ++ nonempty (name ∷ []) → position_or_len is_comma rest < length rest → name ≡ before_first is_comma rest → behind ≡ after_first is_comma rest → names ++ names_in rest ≡ names_in value → new ++ names_in behind ≡ names_in value
names_step names new value rest name behind put some front back so_far = rw (put, append_assoc, front, back) (ap (λ xs. names ++ xs) (sym (names_split rest some)) ∙ so_far)
