-- The first entry of a name and strength, by places.
use Rattle.std.proofs.Common.{◌≡◌, ℕ, true, List, [], ◌∷◌, ◌++◌, refl, ap, subst, sym, inl, inr, Some, None}
use Rattle.std.specs.Str.{bytes_eq}
use Rattle.std.proofs.lemmas.Slice.Eq.{bytes_eq-Decides}
use Rattle.std.proofs.lemmas.Bool.{cases_Bool, and_parts}
use Rattle.wl_linking.specs.Object.{Object}
use Rattle.wl_symbols.specs.Entries.{Entry, entries_of, is_strength, is_of, first_of}
use Rattle.wl_symbols.specs.Names.{IsFirst, HasNone}
use Rattle.wl_symbols.proofs.PlaceLaws.{Before, Stands, entry_is, entry_stands, of_ascends, in_front}
use Rattle.wl_symbols.specs.declared.entry.Place.{Place}
use Rattle.wl_symbols.specs.declared.entry.Strength.{Strength}
use Rattle.wl_symbols.specs.declared.entry.Strength.TheVariants.{Strong, Weak, Undefined}

-- ---- strengths

is_strength-same : (a : Strength) → is_strength a a ≡ true
is_strength-same Strong = refl
is_strength-same Weak = refl
is_strength-same Undefined = refl

pub same_strength : (a b : Strength) → is_strength a b ≡ true → b ≡ a
same_strength Strong Strong h = refl
same_strength Strong Weak h = absurd cc
same_strength Strong Undefined h = absurd cc
same_strength Weak Strong h = absurd cc
same_strength Weak Weak h = refl
same_strength Weak Undefined h = absurd cc
same_strength Undefined Strong h = absurd cc
same_strength Undefined Weak h = absurd cc
same_strength Undefined Undefined h = refl

-- ---- a search

-- the first entry of the name and strength has this place, and none comes before it
pub record Found (name : List ℕ) (strength : Strength) (entries : List Entry) (p : Place) : Type 0 where
  pub e : Entry
  pub stands : Stands entries e
  pub place_is : e.place ≡ p
  pub name_is : e.name ≡ name
  pub strength_is : e.strength ≡ strength
  pub none : first_of name strength stands.front ≡ None

pub found : (name : List ℕ) (strength : Strength) (entries : List Entry) (p : Place) → first_of name strength entries ≡ Some p → Found name strength entries p
found name strength [] p is = absurd cc
found name strength (x ∷ entries) p is = elim (cases_Bool (is_of name strength x)) [
  | inl t ↦ (let told : Some x.place ≡ Some p = rw t at is in
      let parts = and_parts (is_strength strength x.strength) (bytes_eq x.name name) t in
      record {
        e = x;
        stands = record { front = []; back = entries; split = refl };
        place_is = cc;
        name_is = (bytes_eq-Decides x.name name).0 parts.1;
        strength_is = same_strength strength x.strength parts.0;
        none = refl;
      })
  | inr f ↦ (let r = found name strength entries p (rw f at is) in
      record {
        e = r.e;
        stands = record { front = x ∷ r.stands.front; back = r.stands.back; split = ap (λ (zs : List Entry). x ∷ zs) r.stands.split };
        place_is = r.place_is;
        name_is = r.name_is;
        strength_is = r.strength_is;
        none = rw f r.none;
      })
]

none_at_all : (name : List ℕ) (strength : Strength) (front : List Entry) (e : Entry) (back : List Entry) → is_of name strength e ≡ true → first_of name strength (front ++ e ∷ back) ≡ None → ⊥
none_at_all name strength [] e back is none = let told = rw is at none in absurd cc
none_at_all name strength (x ∷ front) e back is none = elim (cases_Bool (is_of name strength x)) [
  | inl t ↦ (let told = rw t at none in absurd cc)
  | inr f ↦ none_at_all name strength front e back is (rw f at none)
]

-- where none is found none stands there
pub not_found : (entries : List Entry) (e : Entry) → first_of e.name e.strength entries ≡ None → Stands entries e → ⊥
not_found entries e none s =
    let is : is_of e.name e.strength e ≡ true = rw (is_strength-same e.strength) ((bytes_eq-Decides e.name e.name).1 refl) in
    none_at_all e.name e.strength s.front e s.back is (subst (λ (es : List Entry). first_of e.name e.strength es ≡ None) (sym s.split) none)

-- ---- by places

pub none_has : (objects : List Object) (name : List ℕ) (strength : Strength) → first_of name strength (entries_of 0 objects) ≡ None → HasNone objects name strength
none_has objects name strength none = λ o k h.
    not_found (entries_of 0 objects) (record { name = name; strength = strength; place = record { object = o; symbol = k } }) none (entry_stands objects name strength o k h)

pub first_has : (objects : List Object) (name : List ℕ) (strength : Strength) (p : Place) → first_of name strength (entries_of 0 objects) ≡ Some p → IsFirst objects name strength p.object p.symbol
first_has objects name strength p is =
    let f = found name strength (entries_of 0 objects) p is in
    record {
      here = rw (f.place_is, f.name_is, f.strength_is) at (entry_is objects f.e f.stands);
      none_before = λ o k h before.
          let d : Entry = record { name = name; strength = strength; place = record { object = o; symbol = k } } in
          let lt : Before d.place f.e.place = rw f.place_is before in
          not_found f.stands.front d f.none (in_front (entries_of 0 objects) d f.e (of_ascends 0 objects) (entry_stands objects name strength o k h) f.stands lt);
    }
