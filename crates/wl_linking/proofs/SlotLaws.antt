-- The laws of the names of imports.
use Rattle.std.proofs.Common.{◌≡◌, ◌≢◌, ℕ, zero, suc, ◌+◌, ◌<◌, ◌≤◌, true, false, List, [], ◌∷◌, ◌++◌, length, map, set, take, drop, Option, Some, None, refl, sym, ap, subst, ◌∙◌, arith, inl, inr, length-set}
use Rattle.std.specs.List.{repeat, slice_get}
use Rattle.std.proofs.lemmas.Option.{same_Some, slice_get_within}
use Rattle.std.proofs.lemmas.Bool.{cases_lt, cases_eq}
use Rattle.std.proofs.lemmas.Slice.Eq.{bytes_eq-Decides}
use Rattle.wl_custom.specs.declared.symbols.WasmSymbolKind.{WasmSymbolKind}
use Rattle.wl_custom.specs.Symbols.{Symbol}
use Rattle.wl_linking.specs.Slots.{Slot, claims, HasOneName, HasTwoNames}
use Rattle.wl_linking.specs.SlotsReading.{AreNamedByRange, IsNamedByRange, is_name_of, named_as, Agrees}
use Rattle.wl_lists.proofs.Places.{there_is}

-- ---- symbols and their imports

-- what was put at a place is there
pub get_set_same : {X : Type 0} (xs : List X) (i : ℕ) (x : X) → i < length xs → slice_get (set xs i x) i ≡ Some x
get_set_same [] i x lt = absurd (omega arith)
get_set_same (y ∷ xs) zero x lt = refl
get_set_same (y ∷ xs) (suc i) x lt = get_set_same xs i x (omega arith)

-- another place has what it had
pub get_set_other : {X : Type 0} (xs : List X) (i j : ℕ) (x : X) → j ≢ i → slice_get (set xs i x) j ≡ slice_get xs j
get_set_other [] i j x other = refl
get_set_other (y ∷ xs) zero zero x other = absurd (other refl)
get_set_other (y ∷ xs) zero (suc j) x other = refl
get_set_other (y ∷ xs) (suc i) zero x other = refl
get_set_other (y ∷ xs) (suc i) (suc j) x other = get_set_other xs i j x (λ e. other (ap suc e))

-- one more of the same thing at the end
pub repeat_more : {X : Type 0} (x : X) (n : ℕ) → repeat n (x ∷ []) ++ x ∷ [] ≡ repeat (n + 1) (x ∷ [])
repeat_more x zero = refl
repeat_more x (suc n) = let e : suc n + 1 ≡ suc (n + 1) = omega arith in rw (e, repeat_more x n) refl

-- where the first i things are changed, as many are there as before
pub changed_length : {X : Type 0} (f : X → X) (xs : List X) (i : ℕ)
    → length (map f (take i xs) ++ drop i xs) ≡ length xs
changed_length f [] zero = refl
changed_length f [] (suc i) = refl
changed_length f (y ∷ xs) zero = refl
changed_length f (y ∷ xs) (suc i) = ap suc (changed_length f xs i)

-- and the next one isn't changed yet
pub unchanged_at : {X : Type 0} (f : X → X) (xs : List X) (i : ℕ)
    → slice_get (map f (take i xs) ++ drop i xs) i ≡ slice_get xs i
unchanged_at f [] zero = refl
unchanged_at f [] (suc i) = refl
unchanged_at f (y ∷ xs) zero = refl
unchanged_at f (y ∷ xs) (suc i) = unchanged_at f xs i

-- one more is changed
pub changed_more : {X : Type 0} (f : X → X) (xs : List X) (i : ℕ) (x : X) → slice_get xs i ≡ Some x
    → set (map f (take i xs) ++ drop i xs) i (f x) ≡ map f (take (i + 1) xs) ++ drop (i + 1) xs
changed_more f [] i x e = absurd cc
changed_more f (y ∷ xs) zero x e = let same = same_Some y x e in rw same refl
changed_more f (y ∷ xs) (suc i) x e =
    let n : suc i + 1 ≡ suc (i + 1) = omega arith in
    rw n (ap (λ zs. f y ∷ zs) (changed_more f xs i x e))

-- ---- the names that symbols give

-- one of the first i symbols claims the import of that number, and this is its name
pub record Tells (kind : WasmSymbolKind) (symbols : List Symbol) (i number : ℕ) (slot : Slot) : Type 0 where
  pub place : ℕ
  pub symbol : Symbol
  pub before : place < i
  pub here : slice_get symbols place ≡ Some symbol
  pub claim : claims kind symbol ≡ true
  pub index : symbol.index ≡ number
  pub same : symbol.name ≡ slot.name
  pub range : symbol.name_range ≡ slot.range

-- the name of a symbol is known
pub record IsKnown (names : List (Option Slot)) (s : Symbol) : Type 0 where
  pub slot : Slot
  pub here : slice_get names s.index ≡ Some (Some slot)
  pub same : slot.name ≡ s.name

-- the names of so many imports as far as the first i symbols give them, all alike
pub record Know (kind : WasmSymbolKind) (count : ℕ) (symbols : List Symbol) (i : ℕ) (names : List (Option Slot)) : Type 0 where
  pub len : length names ≡ count
  pub known : (j : ℕ) (s : Symbol) → j < i → slice_get symbols j ≡ Some s → claims kind s ≡ true → s.index < count → IsKnown names s
  pub told : (number : ℕ) (slot : Slot) → slice_get names number ≡ Some (Some slot) → Tells kind symbols i number slot

-- no name
abbrev Untold : Option Slot
Untold = None

-- before the first symbol nothing is known
pub know_none : (kind : WasmSymbolKind) (count : ℕ) (symbols : List Symbol) → Know kind count symbols 0 (repeat count (None ∷ []))
know_none kind count symbols = record {
  len = length_repeat count;
  known = λ j s lt. absurd (omega arith);
  told = λ number slot e. absurd (nothing count number slot e);
}
  where
    length_repeat : (n : ℕ) → length (repeat n (Untold ∷ [])) ≡ n
    length_repeat zero = refl
    length_repeat (suc n) = ap suc (length_repeat n)

    nothing : (n number : ℕ) (slot : Slot) → slice_get (repeat n (Untold ∷ [])) number ≡ Some (Some slot) → ⊥
    nothing zero number slot e = cc
    nothing (suc n) zero slot e = cc
    nothing (suc n) (suc number) slot e = nothing n number slot e

-- what was known before is known still
told_on : (kind : WasmSymbolKind) (symbols : List Symbol) (i number : ℕ) (slot : Slot) → Tells kind symbols i number slot → Tells kind symbols (i + 1) number slot
told_on kind symbols i number slot t = record {
  place = t.place;
  symbol = t.symbol;
  before = let lt = t.before in omega arith;
  here = t.here;
  claim = t.claim;
  index = t.index;
  same = t.same;
  range = t.range;
}

-- the symbol at the end of some, and those before it
first_or_last : (symbols : List Symbol) (i j : ℕ) (s t : Symbol) (P : Symbol → Type 0) → j < i + 1 → slice_get symbols i ≡ Some s → slice_get symbols j ≡ Some t → (j < i → P t) → P s → P t
first_or_last symbols i j s t P lt here at first last = elim (cases_lt j i) [
  | inl old ↦ first old
  | inr le ↦
      let now : j ≡ i = omega arith in
      let at' : slice_get symbols i ≡ Some t = subst (λ (k : ℕ). slice_get symbols k ≡ Some t) now at in
      let same : s ≡ t = cc in
      subst P same last
]

-- where the last symbol gives nothing, those before it give all
pub know_more : (kind : WasmSymbolKind) (count : ℕ) (symbols : List Symbol) (i : ℕ) (names : List (Option Slot)) (s : Symbol) → slice_get symbols i ≡ Some s
    → (claims kind s ≡ true → s.index < count → ⊥) → Know kind count symbols i names → Know kind count symbols (i + 1) names
know_more kind count symbols i names s here none know = record {
  len = know.len;
  known = λ j t lt at. first_or_last symbols i j s t (λ u. claims kind u ≡ true → u.index < count → IsKnown names u) lt here at
      (λ old claim within. know.known j t old at claim within)
      (λ claim within. absurd (none claim within));
  told = λ number slot e. told_on kind symbols i number slot (know.told number slot e);
}

-- a name that was known before, and that of the symbol, are one
known_name : (slot : Slot) (known : Option Slot) (s : Symbol) → known ≡ Some slot → true ≡ is_name_of known s → slot.name ≡ s.name
known_name slot None s is same = absurd cc
known_name slot (Some other) s is same = let e : other ≡ slot = cc in (bytes_eq-Decides slot.name s.name).0 (subst (λ (x : Slot). is_name_of (Some x) s ≡ true) e (sym same))

-- a symbol that agrees is known too
pub know_agreed : (kind : WasmSymbolKind) (count : ℕ) (symbols : List Symbol) (i : ℕ) (before after : List (Option Slot)) (s : Symbol) → slice_get symbols i ≡ Some s
    → claims kind s ≡ true → Agrees before after s true → Know kind count symbols i before → Know kind count symbols (i + 1) after
know_agreed kind count symbols i before after s here claim agrees know = split (slice_get before s.index) refl
  where
    new : List (Option Slot)
    new = set before s.index (Some (named_as s))

    -- a symbol that came before is known still
    kept : (known : Option Slot) (t : Symbol) → slice_get before s.index ≡ Some known → true ≡ is_name_of known s → IsKnown before t → IsKnown (set before s.index (Some (named_as s))) t
    kept known t is same k = elim (cases_eq t.index s.index) [
      | inl at ↦
          let there : slice_get before s.index ≡ Some (Some k.slot) = subst (λ (n : ℕ). slice_get before n ≡ Some (Some k.slot)) at k.here in
          let e : known ≡ Some k.slot = cc in
          record {
            slot = named_as s;
            here = subst (λ (n : ℕ). slice_get (set before s.index (Some (named_as s))) n ≡ Some (Some (named_as s))) (sym at) (get_set_same before s.index (Some (named_as s)) (slice_get_within before s.index known is));
            same = sym (known_name k.slot known s e same) ∙ k.same;
          }
      | inr other ↦ record { slot = k.slot; here = get_set_other before s.index t.index (Some (named_as s)) other ∙ k.here; same = k.same }
    ]

    split : (o : Option (Option Slot)) → slice_get before s.index ≡ o → Know kind count symbols (i + 1) after
    split None is =
        let p = agrees.beyond is in
        let beyond : s.index < count → ⊥ = λ lt. absurd (let found = there_is before s.index (let len = know.len in omega arith) in let e = found.1 in cc) in
        subst (Know kind count symbols (i + 1)) (sym p.0) (know_more kind count symbols i before s here (λ c lt. beyond lt) know)
    split (Some known) is =
        let p = agrees.there known is in
        let within = slice_get_within before s.index known is in
        subst (Know kind count symbols (i + 1)) (sym p.0) (record {
          len = length-set before s.index (Some (named_as s)) ∙ know.len;
          known = λ j t lt at. first_or_last symbols i j s t (λ u. claims kind u ≡ true → u.index < count → IsKnown (set before s.index (Some (named_as s))) u) lt here at
              (λ old claim' within'. kept known t is p.1 (know.known j t old at claim' within'))
              (λ claim' within'. record { slot = named_as s; here = get_set_same before s.index (Some (named_as s)) within; same = refl });
          told = λ number slot e. elim (cases_eq number s.index) [
            | inl at ↦
                let e' : slice_get (set before s.index (Some (named_as s))) s.index ≡ Some (Some slot) = subst (λ (n : ℕ). slice_get (set before s.index (Some (named_as s))) n ≡ Some (Some slot)) at e in
                let is' = get_set_same before s.index (Some (named_as s)) within in
                let mine : named_as s ≡ slot = cc in
                record { place = i; symbol = s; before = omega arith; here = here; claim = claim; index = sym at; same = ap (λ (x : Slot). x.name) mine; range = ap (λ (x : Slot). x.range) mine }
            | inr other ↦ told_on kind symbols i number slot (know.told number slot (sym (get_set_other before s.index number (Some (named_as s)) other) ∙ e))
          ];
        })

-- where a symbol doesn't agree, an import has two names
pub two_names : (kind : WasmSymbolKind) (count : ℕ) (symbols : List Symbol) (i : ℕ) (before after : List (Option Slot)) (s : Symbol) → slice_get symbols i ≡ Some s
    → claims kind s ≡ true → Agrees before after s false → Know kind count symbols i before → HasTwoNames kind count symbols
two_names kind count symbols i before after s here claim agrees know = split (slice_get before s.index) refl
  where
    split : (o : Option (Option Slot)) → slice_get before s.index ≡ o → HasTwoNames kind count symbols
    split None is = absurd (let no = (agrees.beyond is).1 in cc)
    split (Some None) is = absurd (let no = (agrees.there None is).1 in cc)
    split (Some (Some slot)) is =
        let no = (agrees.there (Some slot) is).1 in
        let t = know.told s.index slot is in
        let within = slice_get_within before s.index (Some slot) is in
        record {
          first = t.place;
          second = i;
          one = t.symbol;
          other = s;
          one_is = t.here;
          other_is = here;
          shared = record { one = t.claim; other = claim; slot = t.index; exists = let len = know.len in let at = t.index in omega arith };
          differ = λ e. absurd (let yes = (bytes_eq-Decides slot.name s.name).1 (sym t.same ∙ e) in cc);
        }

-- where all agree, each import has one name
pub one_name : (kind : WasmSymbolKind) (count : ℕ) (symbols : List Symbol) (i : ℕ) (names : List (Option Slot)) → length symbols ≤ i → Know kind count symbols i names → HasOneName kind count symbols
one_name kind count symbols n names le know i j s t at there shares =
    let lt = slice_get_within symbols i s at in
    let lt' = slice_get_within symbols j t there in
    let exists = shares.exists in
    let slot = shares.slot in
    let a = know.known i s (omega arith) at shares.one exists in
    let b = know.known j t (omega arith) there shares.other (omega arith) in
    let mine : slice_get names t.index ≡ Some (Some a.slot) = subst (λ (k : ℕ). slice_get names k ≡ Some (Some a.slot)) slot a.here in
    let theirs = b.here in
    let same : a.slot ≡ b.slot = cc in
    sym a.same ∙ ap (λ (x : Slot). x.name) same ∙ b.same

-- the name that is known for the symbol at a place is that of a symbol before, at the same range if it is
pub known_by_range : (kind : WasmSymbolKind) (count : ℕ) (symbols : List Symbol) (i : ℕ) (names : List (Option Slot)) (s : Symbol) (known : Option Slot) → AreNamedByRange symbols → slice_get symbols i ≡ Some s
    → Know kind count symbols i names → slice_get names s.index ≡ Some known → IsNamedByRange known s
known_by_range kind count symbols i names s known named here know at slot is range =
    let t = know.told s.index slot (at ∙ ap (λ (o : Option Slot). Some o) is) in
    sym t.same ∙ named t.place i t.symbol s t.here here (t.range ∙ range)

-- ---- symbols that stand for imports in ascending order

-- the first i symbols of a kind stand for imports in ascending order, all below that one
pub record Ascends (kind : WasmSymbolKind) (symbols : List Symbol) (i behind : ℕ) : Type 0 where
  pub below : (j : ℕ) (s : Symbol) → j < i → slice_get symbols j ≡ Some s → claims kind s ≡ true
      → s.index < behind
  pub apart : (j k : ℕ) (s t : Symbol) → j < k → k < i → slice_get symbols j ≡ Some s
      → slice_get symbols k ≡ Some t → claims kind s ≡ true → claims kind t ≡ true
      → s.index < t.index

-- before the first symbol
pub ascend_none : (kind : WasmSymbolKind) (symbols : List Symbol) → Ascends kind symbols 0 0
ascend_none kind symbols = record {
  below = λ j s lt. absurd (omega arith);
  apart = λ j k s t jk lt. absurd (omega arith);
}

-- a symbol that stands for none
pub ascend_more : (kind : WasmSymbolKind) (symbols : List Symbol) (i behind : ℕ) (s : Symbol)
    → slice_get symbols i ≡ Some s → (claims kind s ≡ true → ⊥) → Ascends kind symbols i behind
    → Ascends kind symbols (i + 1) behind
ascend_more kind symbols i behind s here none a = record {
  below = λ j t lt at. first_or_last symbols i j s t (λ u. claims kind u ≡ true → u.index < behind) lt here at
      (λ old claim. a.below j t old at claim)
      (λ claim. absurd (none claim));
  apart = λ j k t u jk lt at there one. first_or_last symbols i k s u (λ v. claims kind v ≡ true → t.index < v.index) lt here there
      (λ old claim. a.apart j k t u jk old at there one claim)
      (λ claim. absurd (none claim));
}

-- a symbol that stands for a later import
pub ascend_claimed : (kind : WasmSymbolKind) (symbols : List Symbol) (i behind : ℕ) (s : Symbol)
    → slice_get symbols i ≡ Some s → behind ≤ s.index → Ascends kind symbols i behind
    → Ascends kind symbols (i + 1) (s.index + 1)
ascend_claimed kind symbols i behind s here later a = record {
  below = λ j t lt at. first_or_last symbols i j s t (λ u. claims kind u ≡ true → u.index < s.index + 1) lt here at
      (λ old claim. let b = a.below j t old at claim in omega arith)
      (λ claim. omega arith);
  apart = λ j k t u jk lt at there one. first_or_last symbols i k s u (λ v. claims kind v ≡ true → t.index < v.index) lt here there
      (λ old claim. a.apart j k t u jk old at there one claim)
      (λ claim. let b = a.below j t (omega arith) at one in omega arith);
}

-- then each import has one name
pub ascend_one : (kind : WasmSymbolKind) (symbols : List Symbol) (i behind count : ℕ) → length symbols ≤ i → Ascends kind symbols i behind
    → HasOneName kind count symbols
ascend_one kind symbols n behind count le a i j s t at there shares =
    let lt = slice_get_within symbols i s at in
    let lt' = slice_get_within symbols j t there in
    let slot = shares.slot in
    elim (cases_lt i j) [
      | inl before ↦ absurd (let x = a.apart i j s t before (omega arith) at there shares.one shares.other in omega arith)
      | inr behind ↦ elim (cases_lt j i) [
        | inl after ↦ absurd (let x = a.apart j i t s after (omega arith) there at shares.other shares.one in omega arith)
        | inr same ↦
            let one : j ≡ i = omega arith in
            let there' : slice_get symbols i ≡ Some t = subst (λ (k : ℕ). slice_get symbols k ≡ Some t) one there in
            let e : s ≡ t = cc in
            ap (λ (x : Symbol). x.name) e
      ]
    ]
