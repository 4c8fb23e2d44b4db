-- One more entry, and what a name then has.
use Rattle.std.proofs.Common.{◌≡◌, ℕ, Bool, true, false, cond, List, [], ◌∷◌, ◌++◌, refl, sym, ap, ◌∙◌, inl, inr, Option, Some, None, unwrap_or}
use Rattle.std.specs.Option.{option_or}
use Rattle.std.specs.Str.{bytes_eq}
use Rattle.std.proofs.lemmas.Slice.Eq.{bytes_eq-Decides}
use Rattle.std.proofs.lemmas.Bool.{cases_Bool}
use Rattle.wl_symbols.specs.Entries.{Entry, is_of, first_of, firsts_of}
use Rattle.wl_symbols.specs.Adding.{with_place, Holds, repeat_of, repeat_in, AddsOne}
use Rattle.wl_symbols.specs.declared.entry.Place.{Place}
use Rattle.wl_symbols.specs.declared.entry.Firsts.{Firsts}
use Rattle.wl_symbols.specs.declared.entry.Strength.{Strength}
use Rattle.wl_symbols.specs.declared.entry.Strength.TheVariants.{Strong, Weak, Undefined}

pub first_of-push : (q : List ℕ) (strength : Strength) (xs : List Entry) (e : Entry) → first_of q strength (xs ++ e ∷ []) ≡ option_or (first_of q strength xs) (first_of q strength (e ∷ []))
first_of-push q strength [] e = refl
first_of-push q strength (x ∷ xs) e = elim (cases_Bool (is_of q strength x)) [ inl h ↦ rw h refl | inr h ↦ rw h (first_of-push q strength xs e) ]

pub option_or-None : (o : Option Place) → option_or o None ≡ o
option_or-None None = refl
option_or-None (Some x) = refl

pub firsts_of-yes : (q : List ℕ) (xs : List Entry) (name : List ℕ) (strength : Strength) (p : Place) → bytes_eq name q ≡ true → firsts_of q (xs ++ record { name = name; strength = strength; place = p } ∷ []) ≡ with_place (firsts_of q xs) strength p
firsts_of-yes q xs name Strong p h = simp (first_of-push, h, option_or-None)
firsts_of-yes q xs name Weak p h = simp (first_of-push, h, option_or-None)
firsts_of-yes q xs name Undefined p h = simp (first_of-push, h, option_or-None)

pub firsts_of-no : (q : List ℕ) (xs : List Entry) (name : List ℕ) (strength : Strength) (p : Place) → bytes_eq name q ≡ false → firsts_of q (xs ++ record { name = name; strength = strength; place = p } ∷ []) ≡ firsts_of q xs
firsts_of-no q xs name Strong p h = simp (first_of-push, h, option_or-None)
firsts_of-no q xs name Weak p h = simp (first_of-push, h, option_or-None)
firsts_of-no q xs name Undefined p h = simp (first_of-push, h, option_or-None)

-- what a map has for a name after it was put for another
pub unwrap_or-cond : {X : Type 0} (b : Bool) (x d : X) (o : Option X) → unwrap_or (cond b (Some x) o) d ≡ cond b x (unwrap_or o d)
unwrap_or-cond true x d o = refl
unwrap_or-cond false x d o = refl

-- the first symbols with one more are those of the entries with one more
pub holds_more : (old new : List ℕ → Firsts) (name : List ℕ) (strength : Strength) (p : Place) (firsts : Firsts) (before : List Entry) → firsts ≡ old name → ((q : List ℕ) → new q ≡ cond (bytes_eq name q) (with_place firsts strength p) (old q)) → Holds old before → Holds new (before ++ record { name = name; strength = strength; place = p } ∷ [])
holds_more old new name strength p firsts before is put holds = λ q. elim (cases_Bool (bytes_eq name q)) [
  | inl t ↦ (let same : name ≡ q = (bytes_eq-Decides name q).0 t in
      let n : new q ≡ with_place firsts strength p = rw t at (put q) in
      let b : firsts ≡ firsts_of q before = is ∙ (holds name ∙ ap (λ ds. firsts_of ds before) same) in
      rw (n, b, firsts_of-yes q before name strength p t) refl)
  | inr f ↦ (let n : new q ≡ old q = rw f at (put q) in rw (n, firsts_of-no q before name strength p f) (holds q))
]

-- the strong symbol that the map has is the one that is repeated
pub repeat_is : (old : List ℕ → Firsts) (name : List ℕ) (strength : Strength) (p : Place) (firsts : Firsts) (told : Option Place) (before : List Entry) → firsts ≡ old name → told ≡ repeat_in firsts strength → Holds old before → repeat_of before (record { name = name; strength = strength; place = p }) ≡ told
repeat_is old name strength p firsts told before is told-is holds = sym (told-is ∙ ap (λ b. repeat_in b strength) (is ∙ holds name))

pub adds_one : (old new : List ℕ → Firsts) (name : List ℕ) (strength : Strength) (p : Place) (firsts : Firsts) → firsts ≡ old name → None ≡ repeat_in firsts strength → ((q : List ℕ) → new q ≡ cond (bytes_eq name q) (with_place firsts strength p) (old q)) → AddsOne old new (record { name = name; strength = strength; place = p }) None
adds_one old new name strength p firsts is told put = λ before holds. (repeat_is old name strength p firsts None before is told holds, holds_more old new name strength p firsts before is put holds)
