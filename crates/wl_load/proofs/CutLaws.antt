-- Lists cut at a place.
use Rattle.std.proofs.Common.{◌≡◌, ℕ, ◌+◌, ◌<◌, List, ◌∷◌, ◌++◌, length, take, drop, get_or, sym, ◌∙◌, ap}
use Rattle.std.proofs.lemmas.List.{drop_more, take-append-drop}

-- what comes before a place, what is there, and what comes after it
pub split_at : {T : Type 0} (xs : List T) (i : ℕ) (x : T) → i < length xs → x ≡ get_or xs i x → xs ≡ take i xs ++ x ∷ drop (i + 1) xs
split_at {T} xs i x lt is = sym (take-append-drop i xs) ∙ ap (λ (ys : List T). take i xs ++ ys) (drop_more xs i x lt ∙ ap (λ (y : T). y ∷ drop (i + 1) xs) (sym is))
