-- Two lists side by side, the second stepped place by place.
use Rattle.std.proofs.Common.{◌≡◌, ◌∙◌, ℕ, zero, suc, ◌+◌, ◌<◌, ◌≤◌, List, [], ◌∷◌, Some, None, length, refl, sym, ap, get_or, drop, slice_get, slice_set, arith}
use Rattle.std.proofs.lemmas.List.{drop_all}
use Rattle.std.proofs.lemmas.Option.{slice_get-get_or, same_Some}
use Rattle.wl_bind.specs.Stepped.{stepped_behind, step_at}
use Rattle.wl_bind.proofs.ListLaws.{next_is, drop_here}

module _ {X Y : Type 0} (step : ℕ → X → Y → Y) where
  -- what is there is stepped
  pub set_steps : (ys : List Y) (place n : ℕ) (x : X) (y z : Y) → slice_get ys place ≡ Some y → z ≡ step n x y
      → slice_set ys place z ≡ step_at step place n x ys
  set_steps [] place n x y z is e = absurd cc
  set_steps (u ∷ ys) zero n x y z is e =
      ap (λ (w : Y). w ∷ ys) (e ∙ ap (step n x) (sym (same_Some u y is)))
  set_steps (u ∷ ys) (suc place) n x y z is e =
      ap (λ (zs : List Y). u ∷ zs) (set_steps ys place n x y z is e)

  -- nothing is there
  pub none_steps : (ys : List Y) (place n : ℕ) (x : X) → slice_get ys place ≡ None → ys ≡ step_at step place n x ys
  none_steps [] place n x is = refl
  none_steps (y ∷ ys) zero n x is = absurd cc
  none_steps (y ∷ ys) (suc place) n x is = ap (λ (zs : List Y). y ∷ zs) (none_steps ys place n x is)

  -- one more is stepped
  pub behind_more : (ys : List Y) (place n : ℕ) (x : X) (xs : List X)
      → stepped_behind step place n (x ∷ xs) ys ≡ stepped_behind step (suc place) (n + 1) xs (step_at step place n x ys)
  behind_more (y ∷ ys) (suc place) n x xs = ap (λ (zs : List Y). y ∷ zs) (behind_more ys place n x xs)
  behind_more [] zero n x xs = refl
  behind_more _ _ n x xs = refl

  -- all are stepped
  pub behind_end : (ys : List Y) (place n : ℕ) → stepped_behind step place n [] ys ≡ ys
  behind_end ys zero n = refl
  behind_end [] (suc place) n = refl
  behind_end (y ∷ ys) (suc place) n = ap (λ (zs : List Y). y ∷ zs) (behind_end ys place n)

  -- ---- the same in a loop over all of the first list

  -- what stands at a place is stepped
  pub place_steps : (ys : List Y) (place n : ℕ) (x : X) (d z : Y) → place < length ys → z ≡ step n x (get_or ys place d)
      → slice_set ys place z ≡ step_at step place n x ys
  place_steps ys place n x d z lt e = set_steps ys place n x (get_or ys place d) z (slice_get-get_or ys place d lt) e

  -- nothing follows the last place
  pub behind_last : (ys : List Y) (place n : ℕ) (x : X) → length ys ≤ place → ys ≡ step_at step place n x ys
  behind_last [] place n x le = refl
  behind_last (y ∷ ys) zero n x le = absurd (omega (arith, le))
  behind_last (y ∷ ys) (suc place) n x le = ap (λ (zs : List Y). y ∷ zs) (behind_last ys place n x (omega (arith, le)))

  -- what is left to do from a place on
  abbrev pub left_from : ℕ → List X → List Y → List Y
  left_from k xs ys = stepped_behind step k k (drop k xs) ys

  pub turn : (xs : List X) (k : ℕ) (x : X) (ys zs all : List Y) → k < length xs → x ≡ get_or xs k x
      → zs ≡ step_at step k k x ys → left_from k xs ys ≡ all → left_from (k + 1) xs zs ≡ all
  turn xs k x ys zs all lt at new rest =
      ap (left_from (k + 1) xs) new
      ∙ (ap (λ (m : ℕ). stepped_behind step m (k + 1) (drop (k + 1) xs) (step_at step k k x ys)) (sym (next_is k))
      ∙ (sym (behind_more ys k k x (drop (k + 1) xs))
      ∙ (ap (λ (ws : List X). stepped_behind step k k ws ys) (sym (drop_here xs k x lt at)) ∙ rest)))

  pub last_turn : (xs : List X) (k : ℕ) (ys all : List Y) → length xs ≤ k → left_from k xs ys ≡ all → ys ≡ all
  last_turn xs k ys all le rest =
      sym (behind_end ys k k) ∙ (ap (λ (ws : List X). stepped_behind step k k ws ys) (sym (drop_all k xs le)) ∙ rest)

  -- ---- the same in a loop that takes the first list

  pub one_taken : (xs rest : List X) (k m n : ℕ) (x : X) (ys zs all : List Y) → xs ≡ x ∷ rest → n ≡ k → m ≡ k + 1 → zs ≡ step_at step n n x ys
      → stepped_behind step k k xs ys ≡ all → stepped_behind step m m rest zs ≡ all
  one_taken xs rest k m n x ys zs all is at next new so =
      let here : stepped_behind step k k (x ∷ rest) ys ≡ all = rw is at so in
      let more = behind_more ys k k x rest in
      rw (next, new, at)
      (ap (λ (p : ℕ). stepped_behind step p (k + 1) rest (step_at step k k x ys)) (sym (next_is k)) ∙ (sym more ∙ here))

  pub none_taken : (xs : List X) (k : ℕ) (ys all : List Y) → length xs ≡ 0 → stepped_behind step k k xs ys ≡ all → ys ≡ all
  none_taken [] k ys all none so = sym (behind_end ys k k) ∙ so
  none_taken (x ∷ xs) k ys all none so = absurd (omega (arith, none))
