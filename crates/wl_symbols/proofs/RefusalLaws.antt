-- Each strong name is that of one symbol, or one refusal reports a repeat.
use Rattle.std.proofs.Common.{◌≡◌, ◌⊎◌, ℕ, List, [], ◌∷◌, ◌++◌, refl, sym, ap, subst, ◌∙◌, inl, inr, Option, Some, None, append-nil, append_assoc}
use Rattle.wl_custom.specs.Symbols.{Symbol as LinkedSymbol}
use Rattle.wl_linking.specs.Object.{Object}
use Rattle.wl_linking.specs.declared.error.LinkError.{LinkError}
use Rattle.wl_symbols.specs.Entries.{Entry, entries_of}
use Rattle.wl_symbols.specs.Names.{HasSymbol}
use Rattle.wl_symbols.specs.Repeats.{HasOneStrong, Pair, IsFirstRepeat, refusal_of, IsDuplicate}
use Rattle.wl_symbols.specs.Adding.{repeat_of, NoneRepeats, AreTwo}
use Rattle.wl_symbols.proofs.AdditionLaws.{none_none, none_more}
use Rattle.wl_symbols.proofs.PlaceLaws.{Before, places_in_order}
use Rattle.wl_symbols.proofs.RepeatLaws.{one_strong, none_twice, first_repeat}
use Rattle.wl_symbols.specs.declared.entry.Place.{Place}
use Rattle.wl_symbols.specs.declared.entry.Strength.TheVariants.{Strong}

-- ---- some

-- none of these repeats a strong name, or one is the first that does
abbrev NoneOrTwo : List Entry → Type 0
NoneOrTwo entries = NoneRepeats entries ⊎ ((pair : Pair) × AreTwo entries pair)

with_told : (front : List Entry) (e : Entry) (rest : List Entry) (told : Option Place) → repeat_of front e ≡ told → NoneRepeats front → (NoneRepeats (front ++ e ∷ []) → NoneOrTwo ((front ++ e ∷ []) ++ rest)) → NoneOrTwo (front ++ e ∷ rest)
with_told front e rest None new none more = subst NoneOrTwo (append_assoc front (e ∷ []) rest) (more (none_more front e none new))
with_told front e rest (Some first) old none more = inr (
  record { name = e.name; first = first; second = e.place },
  record {
    front = front;
    entry = e;
    back = rest;
    split = refl;
    name_is = refl;
    second_is = refl;
    repeats = old;
    earliest = none;
  },
)

-- after entries none of which repeats, none of the rest does, or one is the first
none_or_two : (front rest : List Entry) → NoneRepeats front → NoneOrTwo (front ++ rest)
none_or_two front [] none = inl (rw append-nil none)
none_or_two front (e ∷ rest) none = with_told front e rest (repeat_of front e) refl none (λ more. none_or_two (front ++ e ∷ []) rest more)

pub names_or_repeat : (objects : List Object) → HasOneStrong objects ⊎ ((e : LinkError) × IsDuplicate objects e)
names_or_repeat objects = elim (none_or_two [] (entries_of 0 objects) none_none) [
  | inl none ↦ inl (one_strong objects none)
  | inr two ↦ inr (refusal_of two.0, (two.0, first_repeat objects two.0 two.1, refl))
]

pub never_both : (objects : List Object) (e : LinkError) → HasOneStrong objects → IsDuplicate objects e → ⊥
never_both objects e one told = (none_twice objects one).none e told

-- ---- one

-- a place has one symbol, and that one name
one_name : (objects : List Object) (name other : List ℕ) (p : Place) → HasSymbol objects name Strong p.object p.symbol → HasSymbol objects other Strong p.object p.symbol → name ≡ other
one_name objects name other p a b =
    let both : Some a.s ≡ Some b.s = sym a.stands ∙ b.stands in
    let same : a.s ≡ b.s = cc in
    sym a.name_is ∙ ap (λ (s : LinkedSymbol). s.name) same ∙ b.name_is

-- no repeat comes before the first
not_earlier : (objects : List Object) (p q : Pair) → IsFirstRepeat objects p → IsFirstRepeat objects q → Before p.second q.second → ⊥
not_earlier objects p q a b lt = b.earliest p.name p.first p.second a.repeats lt

-- of two symbols with the name the earlier one is reported
not_between : (objects : List Object) (name : List ℕ) (p q : Pair) → p.name ≡ name → q.name ≡ name → IsFirstRepeat objects p → IsFirstRepeat objects q → Before p.first q.first → ⊥
not_between objects name p q p-is q-is a b lt =
    b.earliest name p.first q.first (record { first_is = rw p-is at a.repeats.first_is; second_is = rw q-is at b.repeats.first_is; in_order = lt }) b.repeats.in_order

one_pair : (objects : List Object) (p q : Pair) → IsFirstRepeat objects p → IsFirstRepeat objects q → p ≡ q
one_pair objects p q a b = elim (places_in_order p.second q.second) [
  | inl lt ↦ absurd (not_earlier objects p q a b lt)
  | inr h ↦ elim h [
    | inr gt ↦ absurd (not_earlier objects q p b a gt)
    | inl second ↦ (let name : p.name ≡ q.name = one_name objects p.name q.name q.second (rw second at a.repeats.second_is) b.repeats.second_is in
        elim (places_in_order p.first q.first) [
          | inl lt ↦ absurd (not_between objects q.name p q name refl a b lt)
          | inr g ↦ elim g [
            | inl first ↦ λ i. record { name = name i; first = first i; second = second i }
            | inr gt ↦ absurd (not_between objects q.name q p refl name b a gt)
          ]
        ])
  ]
]

pub one_refusal : (objects : List Object) (e f : LinkError) → IsDuplicate objects e → IsDuplicate objects f → e ≡ f
one_refusal objects e f a b = a.2 ∙ ap refusal_of (one_pair objects a.0 b.0 a.1 b.1) ∙ sym b.2
