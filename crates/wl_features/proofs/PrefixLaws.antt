-- Prefixes that say what their objects ask for.
use Rattle.std.proofs.Common.{◌≡◌, ℕ, ◌+◌, ◌<◌, ◌≤◌, true, List, length, get_or, take, All, Some, slice_get, sym, ◌∙◌, subst, inl, inr, arith}
use Rattle.std.proofs.lemmas.Bool.{cases_lt}
use Rattle.std.proofs.lemmas.List.Elements.{All-contains, All-more}
use Rattle.std.proofs.lemmas.Option.{slice_get_within}
use Rattle.wl_custom.specs.Features.{Feature}
use Rattle.wl_linking.specs.Object.{Object}
use Rattle.wl_linking.specs.Steps.{Clear}
use Rattle.wl_features.specs.Faults.{is_known, IsBadFeature}

-- the prefixes of all features are known
abbrev pub AreKnown : List Feature → Type 0
AreKnown features = All (λ f. is_known f ≡ true) features

pub known_next : (features : List Feature) (k : ℕ) (f : Feature) → k < length features
    → f ≡ get_or features k f
    → is_known f ≡ true → AreKnown (take k features) → AreKnown (take (k + 1) features)
known_next features k f lt is known before =
    All-more (λ g. is_known g ≡ true) features k f lt before
    (subst (λ (g : Feature). is_known g ≡ true) is known)

-- those of so many objects
pub record KnownBelow (objects : List Object) (count : ℕ) : Type 0 where
  pub known : (object : ℕ) (o : Object) → object < count → slice_get objects object ≡ Some o
      → AreKnown o.features

pub known_more : (objects : List Object) (k : ℕ) (o : Object) → KnownBelow objects k
    → slice_get objects k ≡ Some o
    → AreKnown o.features → KnownBelow objects (k + 1)
known_more objects k o before at own = record {
  known = λ object other lt there. elim (cases_lt object k) [
    | inl below ↦ before.known object other below there
    | inr above ↦ (let same : object ≡ k = omega (arith, lt, above) in
        let both : Some other ≡ Some o = sym (rw same at there) ∙ at in
        let one : other ≡ o = cc in
        rw one own)
  ];
}

pub known_clear : (objects : List Object) (k : ℕ) → KnownBelow objects k → length objects ≤ k
    → Clear (IsBadFeature objects)
known_clear objects k before le = record {
  none = λ e h.
      let within = slice_get_within objects h.object h.o h.here in
      let own = before.known h.object h.o (omega (arith, within, le)) h.here in
      let on : is_known h.feature ≡ true =
      All-contains (λ f. is_known f ≡ true) h.o.features h.feature own h.one in
      let off = h.unknown in
      cc;
}
