-- What stands in lists, and at which places.
use Rattle.std.proofs.Common.{◌≡◌, ◌∙◌, ℕ, zero, suc, ◌+◌, ◌<◌, List, [], ◌∷◌, ◌++◌, length, filter_map, take, get_or, refl, sym, ap, subst, arith, inl, inr, Option, Some, None, slice_get}
use Rattle.std.specs.List.{cons_option}
use Rattle.std.specs.Option.{option_to_list}
use Rattle.std.proofs.lemmas.List.{take_more}
use Rattle.std.proofs.lemmas.List.Elements.{filter_map-append}
use Rattle.wl_lists.proofs.In.{IsIn}

-- ---- what stands in a list

-- what is made of what stands in a list
pub filter_map_in : {X Y : Type 0} (f : X → Option Y) (xs : List X) (x : X) (y : Y) → f x ≡ Some y
    → IsIn xs x → IsIn (filter_map f xs) y
filter_map_in f [] x y made h = absurd h
filter_map_in {X} {Y} f (w ∷ xs) x y made h = elim h [
  | inl e ↦
      let P : X → Type 0 = λ v. f v ≡ Some y in
      let t : f w ≡ Some y = subst P (sym e) made in
      rw t (inl refl)
  | inr r ↦ later (f w) refl (filter_map_in f xs x y made r)
]
  where
    later : (o : Option Y) → f w ≡ o → IsIn (filter_map f xs) y → IsIn (filter_map f (w ∷ xs)) y
    later None is more = rw is more
    later (Some v) is more = rw is (inr more)

-- ---- what stands at a place

pub behind_at : {X : Type 0} (xs ys : List X) (n : ℕ)
    → slice_get (xs ++ ys) (length xs + n) ≡ slice_get ys n
behind_at [] ys n = let e : 0 + n ≡ n = omega arith in ap (λ k. slice_get ys k) e
behind_at (x ∷ xs) ys n =
    let e : suc (length xs) + n ≡ suc (length xs + n) = omega arith in
    ap (λ k. slice_get (x ∷ (xs ++ ys)) k) e ∙ behind_at xs ys n

pub front_at : {X : Type 0} (xs ys : List X) (n : ℕ) → n < length xs
    → slice_get (xs ++ ys) n ≡ slice_get xs n
front_at [] ys n lt = absurd (omega (arith, lt))
front_at (x ∷ xs) ys zero lt = refl
front_at (x ∷ xs) ys (suc n) lt = front_at xs ys n (omega (arith, lt))

-- ---- one more

pub one_item : {Y : Type 0} (o : Option Y) → cons_option o [] ≡ option_to_list o
one_item None = refl
one_item (Some y) = refl

pub filter_map_more : {X Y : Type 0} (f : X → Option Y) (xs : List X) (i : ℕ) (x : X) → i < length xs
    → x ≡ get_or xs i x
    → filter_map f (take (i + 1) xs) ≡ filter_map f (take i xs) ++ option_to_list (f x)
filter_map_more {X} {Y} f xs i x lt is =
    ap (λ (zs : List X). filter_map f zs) (take_more xs i x lt)
    ∙ (filter_map-append f (take i xs) (get_or xs i x ∷ [])
    ∙ (ap (λ (z : X). filter_map f (take i xs) ++ filter_map f (z ∷ [])) (sym is)
    ∙ ap (λ (ys : List Y). filter_map f (take i xs) ++ ys) (one_item (f x))))
