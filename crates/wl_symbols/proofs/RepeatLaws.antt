-- Symbols that repeat a strong name, by places.
use Rattle.std.proofs.Common.{◌≡◌, ℕ, Bool, true, false, cond, List, [], ◌∷◌, ◌++◌, refl, subst, ◌∙◌, inl, inr, Option, Some, None, append-nil}
use Rattle.wl_linking.specs.Object.{Object}
use Rattle.wl_linking.specs.Steps.{Clear}
use Rattle.wl_symbols.specs.Entries.{Entry, entries_of, is_strength, first_of}
use Rattle.wl_symbols.specs.Names.{HasSymbol}
use Rattle.wl_symbols.specs.Repeats.{HasOneStrong, Repeats, Pair, IsFirstRepeat, IsDuplicate}
use Rattle.wl_symbols.specs.Adding.{NoneRepeats, AreTwo}
use Rattle.wl_symbols.proofs.AdditionLaws.{none_at}
use Rattle.wl_symbols.proofs.PlaceLaws.{Before, places_in_order, not_both, Stands, in_whole, entry_is, entry_stands, of_ascends, comes_before, in_front}
use Rattle.wl_symbols.proofs.CaseLaws.{same_strength, found, not_found}
use Rattle.wl_symbols.specs.declared.entry.Place.{Place}
use Rattle.wl_symbols.specs.declared.entry.Strength.TheVariants.{Strong}

-- the entry of a strong symbol
abbrev strong_at : List ℕ → Place → Entry
strong_at name p = record { name = name; strength = Strong; place = p }

-- in a front of the entries none of which repeats, no symbol repeats another
not_before : (objects : List Object) (xs ys : List Entry) → xs ++ ys ≡ entries_of 0 objects → NoneRepeats xs → (name : List ℕ) (p q : Place) → HasSymbol objects name Strong p.object p.symbol → Stands xs (strong_at name q) → Before p q → ⊥
not_before objects xs ys is none name p q a s lt =
    let whole = in_whole xs ys (entries_of 0 objects) (strong_at name q) is s in
    let d : Stands s.front (strong_at name p) = in_front (entries_of 0 objects) (strong_at name p) (strong_at name q) (of_ascends 0 objects) (entry_stands objects name Strong p.object p.symbol a) whole lt in
    not_found s.front (strong_at name p) (none_at xs s.front (strong_at name q) s.back s.split none) d

-- where no entry repeats, each strong name is that of one symbol
pub one_strong : (objects : List Object) → NoneRepeats (entries_of 0 objects) → HasOneStrong objects
one_strong objects none = λ name o k p l a b.
    let x : Place = record { object = o; symbol = k } in
    let y : Place = record { object = p; symbol = l } in
    let all : entries_of 0 objects ++ [] ≡ entries_of 0 objects = append-nil (entries_of 0 objects) in
    elim (places_in_order x y) [
      | inl lt ↦ absurd (not_before objects (entries_of 0 objects) [] all none name x y a (entry_stands objects name Strong p l b) lt)
      | inr h ↦ elim h [
        | inl same ↦ (λ i. (same i).object, λ i. (same i).symbol)
        | inr gt ↦ absurd (not_before objects (entries_of 0 objects) [] all none name y x b (entry_stands objects name Strong o k a) gt)
      ]
    ]

-- where each strong name is that of one symbol, none repeats one
pub none_twice : (objects : List Object) → HasOneStrong objects → Clear (IsDuplicate objects)
none_twice objects one = record {
  none = λ e d.
      let p = d.0.first in
      let q = d.0.second in
      let r = d.1.repeats in
      let same = one d.0.name p.object p.symbol q.object q.symbol r.first_is r.second_is in
      let itself : Before q q = rw (same.0, same.1) at r.in_order in
      not_both q q itself itself;
}

-- ---- the two of entries are the first repeat

chosen_is : (b : Bool) (o : Option Place) (p : Place) → cond b o None ≡ Some p → (b ≡ true) × (o ≡ Some p)
chosen_is true o p e = (refl, e)
chosen_is false o p e = absurd cc

-- the symbol of an entry, by what the entry says
known : (objects : List Object) (e : Entry) (name : List ℕ) (p : Place) → e.place ≡ p → e.name ≡ name → e.strength ≡ Strong → HasSymbol objects e.name e.strength e.place.object e.place.symbol → HasSymbol objects name Strong p.object p.symbol
known objects e name p place name-is strength h = rw (place, name-is, strength) at h

two_repeat : (objects : List Object) (pair : Pair) → AreTwo (entries_of 0 objects) pair → Repeats objects pair.name pair.first pair.second
two_repeat objects pair r =
    let L = entries_of 0 objects in
    let both = chosen_is (is_strength Strong r.entry.strength) (first_of r.entry.name Strong r.front) pair.first r.repeats in
    let f = found r.entry.name Strong r.front pair.first both.1 in
    let second : Stands L r.entry = record { front = r.front; back = r.back; split = r.split } in
    let first : Stands L f.e = in_whole r.front (r.entry ∷ r.back) L f.e r.split f.stands in
    let lt : Before f.e.place r.entry.place = comes_before L f.e r.entry (of_ascends 0 objects) second f.stands in
    record {
      first_is = known objects f.e pair.name pair.first f.place_is (f.name_is ∙ r.name_is) f.strength_is (entry_is objects f.e first);
      second_is = known objects r.entry pair.name pair.second r.second_is r.name_is (same_strength Strong r.entry.strength both.0) (entry_is objects r.entry second);
      in_order = subst (λ (q : Place). Before pair.first q) r.second_is (subst (λ (p : Place). Before p r.entry.place) f.place_is lt);
    }

pub first_repeat : (objects : List Object) (pair : Pair) → AreTwo (entries_of 0 objects) pair → IsFirstRepeat objects pair
first_repeat objects pair r = record {
  repeats = two_repeat objects pair r;
  earliest = λ name p q again before.
      let L = entries_of 0 objects in
      let second : Stands L r.entry = record { front = r.front; back = r.back; split = r.split } in
      let lt : Before q r.entry.place = rw r.second_is before in
      let stands : Stands r.front (strong_at name q) = in_front L (strong_at name q) r.entry (of_ascends 0 objects) (entry_stands objects name Strong q.object q.symbol again.second_is) second lt in
      not_before objects r.front (r.entry ∷ r.back) r.split r.earliest name p q again.first_is stands again.in_order;
}
