-- Objects that disallow features, and names that they disallow.
use Rattle.std.proofs.Common.{◌≡◌, ℕ, ◌+◌, ◌<◌, true, false, Bool, List, length, Less, Option, Some, None, ◌||◌, MatchOption, is_some, cond, bytes_eq, refl, slice_get, sym, ◌∙◌, inl, inr, arith}
use Rattle.std.specs.Cmp.Lexicographic.{nat_list_cmp_total, same_text}
use Rattle.std.proofs.lemmas.Bool.{cases_Bool, cases_lt}
use Rattle.std.proofs.lemmas.Option.{slice_get_within}
use Rattle.std.proofs.lemmas.List.{length-map}
use Rattle.wl_linking.specs.Object.{Object}
use Rattle.wl_linking.specs.Steps.{Clear, Refuses}
use Rattle.wl_linking.specs.declared.error.LinkError.{LinkError}
use Rattle.wl_symbols.specs.Link.{Link}
use Rattle.wl_features.specs.Taken.{AreTaken, by_bytes}
use Rattle.wl_features.specs.Faults.{disallows, DisallowedBy, Clashes, IsConflict}
use Rattle.wl_features.specs.Disallowing.{NoneBelow, NoneDisallows, IsFirstBy, with_object, AreFree, IsFirstClash}
use Rattle.wl_features.proofs.AscendingLaws.{contains_at, place_of, not_less}
use Rattle.wl_features.proofs.TakenLaws.{Name, bytes_of, has_taken, is_taken}

-- ---- objects

not_here : (objects : List Object) (name : List ℕ) (k : ℕ) (o : Object)
    → slice_get objects k ≡ Some o
    → disallows name o ≡ false → DisallowedBy objects name k → ⊥
not_here objects name k o at off (other, there, on) =
    let both : Some other ≡ Some o = sym there ∙ at in
    let same : other ≡ o = cc in
    let told : disallows name o ≡ true = rw same at on in
    cc

none_below_more : (objects : List Object) (name : List ℕ) (k : ℕ) (o : Object)
    → NoneBelow objects name k
    → slice_get objects k ≡ Some o → disallows name o ≡ false → NoneBelow objects name (k + 1)
none_below_more objects name k o before at off = record {
  none = λ object lt by. elim (cases_lt object k) [
    | inl below ↦ before.none object below by
    | inr above ↦ (let same : object ≡ k = omega (arith, lt, above) in
        not_here objects name k o at off (rw same at by))
  ];
}

-- ---- the first object

pub first_more : (objects : List Object) (name : List ℕ) (k : ℕ) (o : Object)
    → slice_get objects k ≡ Some o → (first : Option ℕ)
    → MatchOption first (NoneBelow objects name k) (IsFirstBy objects name)
    → MatchOption (with_object first (disallows name o) k) (NoneBelow objects name (k + 1))
    (IsFirstBy objects name)
first_more objects name k o at (Some object) before = before
first_more objects name k o at None before = elim (cases_Bool (disallows name o)) [
  | inl on ↦ rw on (record { by = (o, at, on); before = before })
  | inr off ↦ rw off (none_below_more objects name k o before at off)
]

-- one object that may disallow it by either of two features
pub with_both : (first : Option ℕ) (a b : Bool) (object : ℕ)
    → with_object (with_object first a object) b object ≡ with_object first (a || b) object
with_both (Some x) a b object = refl
with_both None true b object = refl
with_both None false b object = refl

with_none : (first : Option ℕ) (object : ℕ) → first ≡ with_object first false object
with_none (Some x) object = refl
with_none None object = refl

kept_some : (first : Option ℕ) (object : ℕ) → is_some first ≡ true
    → first ≡ with_object first true object
kept_some (Some x) object there = refl
kept_some None object there = absurd cc

is_none_from : (first : Option ℕ) → is_some first ≡ false → first ≡ None
is_none_from None absent = refl
is_none_from (Some x) absent = absurd cc

-- what a map finds after a name was added
pub name_kept : (found : List ℕ → Option ℕ) (name q : List ℕ) (object : ℕ)
    → is_some (found name) ≡ true
    → found q ≡ with_object (found q) (bytes_eq name q) object
name_kept found name q object there = elim (cases_Bool (bytes_eq name q)) [
  | inl same ↦ rw (same, ← same_text name q (sym same)) (kept_some (found name) object there)
  | inr other ↦ rw other (with_none (found q) object)
]

pub name_added : (found : List ℕ → Option ℕ) (name q : List ℕ) (object : ℕ) (new : Option ℕ)
    → is_some (found name) ≡ false
    → new ≡ cond (bytes_eq name q) (Some object) (found q)
    → new ≡ with_object (found q) (bytes_eq name q) object
name_added found name q object new absent is = is ∙ elim (cases_Bool (bytes_eq name q)) [
  | inl same ↦ rw (same, ← same_text name q (sym same), is_none_from (found name) absent) refl
  | inr other ↦ rw other (with_none (found q) object)
]

-- ---- none

pub none_at_all : (objects : List Object) (name : List ℕ) (k : ℕ) → NoneDisallows objects name
    → DisallowedBy objects name k → ⊥
none_at_all objects name k none by = none.none k (slice_get_within objects k by.0 by.1) by

-- ---- names in order

pub free_more : (objects : List Object) (names : List (List ℕ)) (k : ℕ) (name : List ℕ)
    → AreFree objects names k
    → slice_get names k ≡ Some name → NoneDisallows objects name → AreFree objects names (k + 1)
free_more objects names k name before at none = record {
  free = λ place other lt there. elim (cases_lt place k) [
    | inl below ↦ before.free place other below there
    | inr above ↦ (let same : place ≡ k = omega (arith, lt, above) in
        let both : Some other ≡ Some name = sym (rw same at there) ∙ at in
        let one : other ≡ name = cc in
        rw one none)
  ];
}

-- ---- conflicts

-- no name is disallowed
pub conflict_clear : (link : Link) (names : List Name) → AreTaken link (bytes_of names)
    → AreFree link.objects (bytes_of names) (length names) → Clear (IsConflict link)
conflict_clear link names taken free = record {
  none = λ e h.
      let seen = bytes_of names in
      let p = place_of seen h.name (has_taken link seen taken h.name h.clash.taken) in
      let within : p.0 < length names = rw length-map at (slice_get_within seen p.0 h.name p.1) in
      let none = free.free p.0 h.name within p.1 in
      none_at_all link.objects h.name h.object none h.clash.by;
}

not_least : (link : Link) (names : List (List ℕ)) → AreTaken link names
    → (e : LinkError) (h : IsFirstClash link.objects names e)
    → (other : List ℕ) (object : ℕ) → Clashes link other object → by_bytes other h.name ≡ Less → ⊥
not_least link names taken e h other object clash less =
    let p = place_of names other (has_taken link names taken other clash.taken) in
    elim (cases_lt p.0 h.place) [
      | inl below ↦
          none_at_all link.objects other object (h.before.free p.0 other below p.1) clash.by
      | inr above ↦
          not_less nat_list_cmp_total names h.place p.0 h.name other taken.ascending above h.here
          p.1 less
    ]

-- the first that is disallowed is the least
conflict_from : (link : Link) (names : List (List ℕ)) → AreTaken link names
    → link.args.check_features ≡ true
    → (e : LinkError) → IsFirstClash link.objects names e → IsConflict link e
conflict_from link names taken checked e h = record {
  checked = checked;
  name = h.name;
  object = h.object;
  clash = record {
    taken = is_taken link names taken h.name (contains_at names h.place h.name h.here);
    by = h.by.by;
  };
  least = not_least link names taken e h;
  first = λ place clash lt. h.by.before.none place lt clash.by;
  told = h.told;
}

pub conflict_refuses : (link : Link) (names : List (List ℕ)) → AreTaken link names
    → link.args.check_features ≡ true
    → (e : LinkError) → Refuses (IsFirstClash link.objects names) e → Refuses (IsConflict link) e
conflict_refuses link names taken checked e h = record {
  cause_is = λ other. conflict_from link names taken checked e (h.cause_is other);
}
