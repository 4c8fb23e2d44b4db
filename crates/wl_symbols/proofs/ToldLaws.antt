-- What names stand for, found from the symbols that bear each of them.
use Rattle.std.proofs.Common.{◌≡◌, ◌⊎◌, ◌≤◌, ◌<◌, take, get_or, ℕ, ◌+◌, true, false, cond, List, [], ◌∷◌, ◌++◌, length, refl, sym, ap, subst, ◌∙◌, inl, inr, Option, Some, None, option_map, unwrap_or, slice_get, append_assoc, append-nil, arith}
use Rattle.std.specs.List.{list_any}
use Rattle.std.specs.Option.{option_or}
use Rattle.std.specs.Str.{bytes_eq}
use Rattle.std.proofs.lemmas.Bool.{cases_Bool}
use Rattle.std.proofs.lemmas.List.{length-append, take_more}
use Rattle.std.proofs.lemmas.Slice.Eq.{bytes_eq-Decides}
use Rattle.wl_linking.specs.Object.{Object}
use Rattle.wl_symbols.specs.Entries.{Entry, is_strength, is_of, first_of, firsts_of, entries_of}
use Rattle.wl_symbols.specs.Repeats.{Pair}
use Rattle.wl_symbols.specs.Adding.{no_firsts, with_place, Holds, repeat_of, repeat_in, AreTwo}
use Rattle.wl_symbols.specs.Bearers.{bearer_of, is_named, bearers, Lists, first_among, firsts_among}
use Rattle.wl_symbols.specs.Telling.{new_names, IsTold, Tells}
use Rattle.wl_symbols.proofs.AdditionLaws.{none_more, none_none}
use Rattle.wl_symbols.proofs.CaseLaws.{found}
use Rattle.wl_symbols.proofs.FirstLaws.{option_or-None}
use Rattle.wl_symbols.proofs.PlaceLaws.{Before, Stands, not_both, of_ascends, comes_before}
use Rattle.wl_symbols.proofs.BearerLaws.{bearers-append, none_bears, or_none}
use Rattle.wl_symbols.specs.declared.bearers.Bearer.{Bearer}
use Rattle.wl_symbols.specs.declared.entry.Place.{Place}
use Rattle.wl_symbols.specs.declared.entry.Firsts.{Firsts}
use Rattle.wl_symbols.specs.declared.entry.Strength.{Strength}
use Rattle.wl_symbols.specs.declared.entry.Strength.TheVariants.{Strong, Weak, Undefined}

-- ---- the first symbols of a name

first_among_is : (strength : Strength) (q : List ℕ) (es : List Entry) → first_among strength (bearers q es) ≡ first_of q strength es
first_among_is strength q [] = refl
first_among_is strength q (e ∷ es) = elim (cases_Bool (bytes_eq e.name q)) [
  | inl n ↦ elim (cases_Bool (is_strength strength e.strength)) [
    | inl s ↦ rw (n, s) refl
    | inr s ↦ rw (n, s) (first_among_is strength q es)
  ]
  | inr n ↦ elim (cases_Bool (is_strength strength e.strength)) [
    | inl s ↦ rw (n, s) (first_among_is strength q es)
    | inr s ↦ rw (n, s) (first_among_is strength q es)
  ]
]

pub firsts_among_are : (q : List ℕ) (es : List Entry) → firsts_among (bearers q es) ≡ firsts_of q es
firsts_among_are q es = λ i. record {
  strong = first_among_is Strong q es i;
  weak = first_among_is Weak q es i;
  undefined = first_among_is Undefined q es i;
}

among_push : (strength : Strength) (bs : List Bearer) (b : Bearer) → first_among strength (bs ++ b ∷ []) ≡ option_or (first_among strength bs) (first_among strength (b ∷ []))
among_push strength [] b = refl
among_push strength (x ∷ bs) b = elim (cases_Bool (is_strength strength x.strength)) [ inl s ↦ rw s refl | inr s ↦ rw s (among_push strength bs b) ]

-- the first ones with one more symbol after them
pub among_more : (bs : List Bearer) (strength : Strength) (p : Place) → firsts_among (bs ++ record { strength = strength; place = p } ∷ []) ≡ with_place (firsts_among bs) strength p
among_more bs Strong p = simp (among_push, option_or-None)
among_more bs Weak p = simp (among_push, option_or-None)
among_more bs Undefined p = simp (among_push, option_or-None)

pub among_at : (bs : List Bearer) (k : ℕ) (d : Bearer) (firsts : Firsts) → k < length bs → firsts ≡ firsts_among (take k bs) → with_place firsts (get_or bs k d).strength (get_or bs k d).place ≡ firsts_among (take (k + 1) bs)
among_at bs k d firsts lt is =
    let b = get_or bs k d in
    sym (ap firsts_among (take_more bs k d lt) ∙ (among_more (take k bs) b.strength b.place ∙ ap (λ (f : Firsts). with_place f b.strength b.place) (sym is)))

-- ---- the first symbol of a name

head_of : List Bearer → Option Place
head_of bs = option_map (λ (b : Bearer). b.place) (slice_get bs 0)

itself : (e : Entry) → bytes_eq e.name e.name ≡ true
itself e = (bytes_eq-Decides e.name e.name).1 refl

-- where no entry before has its name, an entry is the first of it
pub head_new : (before : List Entry) (e : Entry) (back : List Entry) → list_any (is_named e.name) before ≡ false → option_map (λ (b : Bearer). b.place) (slice_get (bearers e.name (before ++ e ∷ back)) 0) ≡ Some e.place
head_new before e back none =
    let none-before : bearers e.name before ≡ [] = none_bears e.name before none in
    let here : bearers e.name (e ∷ back) ≡ bearer_of e ∷ bearers e.name back = rw (itself e) refl in
    let all : bearers e.name (before ++ e ∷ back) ≡ bearer_of e ∷ bearers e.name back = bearers-append e.name before (e ∷ back) ∙ (ap (λ (bs : List Bearer). bs ++ bearers e.name (e ∷ back)) none-before ∙ here) in
    ap (λ (bs : List Bearer). option_map (λ (b : Bearer). b.place) (slice_get bs 0)) all

-- and where one has, that one is
record First (q : List ℕ) (before rest : List Entry) : Type 0 where
  d : Entry
  stands : Stands before d
  heads : option_map (λ (b : Bearer). b.place) (slice_get (bearers q (before ++ rest)) 0) ≡ Some d.place

first_named : (q : List ℕ) (before rest : List Entry) → list_any (is_named q) before ≡ true → First q before rest
first_named q [] rest any = absurd cc
first_named q (x ∷ before) rest any = elim (cases_Bool (bytes_eq x.name q)) [
  | inl t ↦ record { d = x; stands = record { front = []; back = before; split = refl }; heads = rw t refl }
  | inr f ↦ (let r = first_named q before rest (rw f at any) in
      record {
        d = r.d;
        stands = record { front = x ∷ r.stands.front; back = r.stands.back; split = ap (λ (zs : List Entry). x ∷ zs) r.stands.split };
        heads = rw f r.heads;
      })
]

same_some : (a b : Place) → Some a ≡ Some b → a ≡ b
same_some a b e = cc

none_some : (p : Place) → None ≡ Some p → ⊥
none_some p e = cc

stands_before : (objects : List Object) (before : List Entry) (e : Entry) (back : List Entry) (d : Entry) → before ++ e ∷ back ≡ entries_of 0 objects → Stands before d → d.place ≡ e.place → ⊥
stands_before objects before e back d split stands same =
    let s : Stands (entries_of 0 objects) e = record { front = before; back = back; split = split } in
    let lt : Before d.place e.place = comes_before (entries_of 0 objects) d e (of_ascends 0 objects) s stands in
    let again : Before e.place e.place = subst (λ (p : Place). Before p e.place) same lt in
    not_both e.place e.place again again

pub head_old : (objects : List Object) (before : List Entry) (e : Entry) (back : List Entry) → before ++ e ∷ back ≡ entries_of 0 objects → list_any (is_named e.name) before ≡ true → option_map (λ (b : Bearer). b.place) (slice_get (bearers e.name (before ++ e ∷ back)) 0) ≡ Some e.place → ⊥
head_old objects before e back split any head =
    let r = first_named e.name before (e ∷ back) any in
    stands_before objects before e back r.d split r.stands (same_some r.d.place e.place (sym r.heads ∙ head))

-- ---- repeats

-- what is found in a front is found in all
first_in_front : (q : List ℕ) (strength : Strength) (xs ys : List Entry) (p : Place) → first_of q strength xs ≡ Some p → first_of q strength (xs ++ ys) ≡ Some p
first_in_front q strength [] ys p is = absurd cc
first_in_front q strength (x ∷ xs) ys p is = elim (cases_Bool (is_of q strength x)) [
  | inl t ↦ rw t (rw t at is)
  | inr f ↦ rw f (first_in_front q strength xs ys p (rw f at is))
]

first_behind : (q : List ℕ) (strength : Strength) (xs ys : List Entry) → first_of q strength xs ≡ None → first_of q strength (xs ++ ys) ≡ first_of q strength ys
first_behind q strength [] ys none = refl
first_behind q strength (x ∷ xs) ys none = elim (cases_Bool (is_of q strength x)) [
  | inl t ↦ (let told = rw t at none in absurd cc)
  | inr f ↦ rw f (first_behind q strength xs ys (rw f at none))
]

-- an entry is strong, or it repeats nothing
strong_or_not : (entries : List Entry) (e : Entry) → (is_strength Strong e.strength ≡ true) ⊎ (repeat_of entries e ≡ None)
strong_or_not entries e = elim (cases_Bool (is_strength Strong e.strength)) [ inl t ↦ inl t | inr f ↦ inr (rw f refl) ]

cases_place : (o : Option Place) → (o ≡ None) ⊎ ((p : Place) × (o ≡ Some p))
cases_place None = inl refl
cases_place (Some p) = inr (p, refl)

strong_repeat : (entries : List Entry) (e : Entry) → is_strength Strong e.strength ≡ true → repeat_of entries e ≡ first_of e.name Strong entries
strong_repeat entries e s = rw s refl

none_or_itself : (objects : List Object) (before : List Entry) (e : Entry) (back : List Entry) → before ++ e ∷ back ≡ entries_of 0 objects → ((repeat_of (before ++ e ∷ back) e ≡ None) ⊎ (repeat_of (before ++ e ∷ back) e ≡ Some e.place)) → repeat_of before e ≡ None
none_or_itself objects before e back split told = elim (strong_or_not before e) [
  | inl s ↦ elim (cases_place (first_of e.name Strong before)) [
    | inl none ↦ strong_repeat before e s ∙ none
    | inr some ↦ (let whole : repeat_of (before ++ e ∷ back) e ≡ Some some.0 = strong_repeat (before ++ e ∷ back) e s ∙ first_in_front e.name Strong before (e ∷ back) some.0 some.1 in
        elim told [
          | inl none ↦ absurd (none_some some.0 (sym none ∙ whole))
          | inr it ↦ (let f = found e.name Strong before some.0 some.1 in
              let same : some.0 ≡ e.place = same_some some.0 e.place (sym whole ∙ it) in
              absurd (stands_before objects before e back f.e split f.stands (f.place_is ∙ same)))
        ])
  ]
  | inr none ↦ none
]

first_itself : (e : Entry) (back : List Entry) → is_strength Strong e.strength ≡ true → first_of e.name Strong (e ∷ back) ≡ Some e.place
first_itself e back s = rw (s, itself e) refl

met_before : (before : List Entry) (e : Entry) (back : List Entry) (first : Place) → repeat_of (before ++ e ∷ back) e ≡ Some first → (first ≡ e.place → ⊥) → repeat_of before e ≡ Some first
met_before before e back first told apart = elim (strong_or_not (before ++ e ∷ back) e) [
  | inl s ↦ elim (cases_place (first_of e.name Strong before)) [
    | inl none ↦ (let it : Some first ≡ Some e.place = sym told ∙ (strong_repeat (before ++ e ∷ back) e s ∙ (first_behind e.name Strong before (e ∷ back) none ∙ first_itself e back s)) in
        absurd (apart (same_some first e.place it)))
    | inr some ↦ (let whole : Some first ≡ Some some.0 = sym told ∙ (strong_repeat (before ++ e ∷ back) e s ∙ first_in_front e.name Strong before (e ∷ back) some.0 some.1) in
        strong_repeat before e s ∙ (some.1 ∙ sym whole))
  ]
  | inr none ↦ absurd (none_some first (sym none ∙ told))
]

-- ---- one entry

any_last : (q : List ℕ) (before : List Entry) (e : Entry) → bytes_eq e.name q ≡ true → list_any (is_named q) (before ++ e ∷ []) ≡ true
any_last q [] e t = rw t refl
any_last q (x ∷ before) e t = elim (cases_Bool (bytes_eq x.name q)) [ inl h ↦ rw h refl | inr h ↦ rw h (any_last q before e t) ]

any_same : (q : List ℕ) (before : List Entry) (e : Entry) → bytes_eq e.name q ≡ false → list_any (is_named q) (before ++ e ∷ []) ≡ list_any (is_named q) before
any_same q [] e f = rw f refl
any_same q (x ∷ before) e f = elim (cases_Bool (bytes_eq x.name q)) [ inl h ↦ rw h refl | inr h ↦ rw h (any_same q before e f) ]

-- the first symbols of its name were put
told_put : (all before : List Entry) (e : Entry) (old new : List ℕ → Firsts) → ((q : List ℕ) → new q ≡ cond (bytes_eq e.name q) (firsts_of e.name all) (old q)) → repeat_of before e ≡ None → IsTold all before old → IsTold all (before ++ e ∷ []) new
told_put all before e old new put clear told = record {
  names = λ q. elim (cases_Bool (bytes_eq e.name q)) [
    | inl t ↦ (let same : e.name ≡ q = (bytes_eq-Decides e.name q).0 t in
        let n : new q ≡ firsts_of e.name all = rw t at (put q) in
        n ∙ rw (any_last q before e t) (ap (λ (r : List ℕ). firsts_of r all) same))
    | inr f ↦ (let n : new q ≡ old q = rw f at (put q) in
        n ∙ rw (any_same q before e f) (told.names q))
  ];
  clear = none_more before e told.clear clear;
}

-- they had been put before
told_before : (all before : List Entry) (e : Entry) (old : List ℕ → Firsts) → list_any (is_named e.name) before ≡ true → repeat_of before e ≡ None → IsTold all before old → IsTold all (before ++ e ∷ []) old
told_before all before e old any clear told = record {
  names = λ q. elim (cases_Bool (bytes_eq e.name q)) [
    | inl t ↦ (let same : e.name ≡ q = (bytes_eq-Decides e.name q).0 t in
        let any-q : list_any (is_named q) before ≡ true = subst (λ (r : List ℕ). list_any (is_named r) before ≡ true) same any in
        let was : old q ≡ firsts_of q all = rw any-q at (told.names q) in
        was ∙ rw (any_last q before e t) refl)
    | inr f ↦ rw (any_same q before e f) (told.names q)
  ];
  clear = none_more before e told.clear clear;
}

-- ---- the end

-- where all entries were taken, each name has its first symbols
pub told_all : (all : List Entry) (found : List ℕ → Firsts) → IsTold all all found → Holds found all
told_all all found told = λ q. elim (cases_Bool (list_any (is_named q) all)) [
  | inl t ↦ (rw t at (told.names q))
  | inr f ↦ (let n : found q ≡ no_firsts = rw f at (told.names q) in n ∙ (sym (ap firsts_among (none_bears q all f)) ∙ firsts_among_are q all))
]

pub told_none : (all : List Entry) (found : List ℕ → Firsts) → ((q : List ℕ) → found q ≡ no_firsts) → IsTold all [] found
told_none all found none = record { names = none; clear = none_none }

-- ---- what a call finds

-- the symbols that were looked up
looked_up : (lists : List ℕ → Option (List Bearer)) (objects : List Object) (q : List ℕ) (bs : List Bearer) → Lists lists (entries_of 0 objects) → bs ≡ unwrap_or (lists q) [] → bs ≡ bearers q (entries_of 0 objects)
looked_up lists objects q bs have is = is ∙ (ap (λ (o : Option (List Bearer)). unwrap_or o []) (have q) ∙ or_none (bearers q (entries_of 0 objects)))

repeats_of : (objects : List Object) (before : List Entry) (e : Entry) (back : List Entry) (bs : List Bearer) → before ++ e ∷ back ≡ entries_of 0 objects → bs ≡ bearers e.name (entries_of 0 objects) → repeat_in (firsts_among bs) e.strength ≡ repeat_of (before ++ e ∷ back) e
repeats_of objects before e back bs split is =
    ap (λ (b : Firsts). repeat_in b e.strength) (ap firsts_among (is ∙ ap (bearers e.name) (sym split)) ∙ firsts_among_are e.name (before ++ e ∷ back))

abbrev pub NoRepeat : List Bearer → Entry → Type 0
NoRepeat bs e = (repeat_in (firsts_among bs) e.strength ≡ None) ⊎ (repeat_in (firsts_among bs) e.strength ≡ Some e.place)

no_repeat : (objects : List Object) (before : List Entry) (e : Entry) (back : List Entry) (bs : List Bearer) → before ++ e ∷ back ≡ entries_of 0 objects → bs ≡ bearers e.name (entries_of 0 objects) → NoRepeat bs e → repeat_of before e ≡ None
no_repeat objects before e back bs split is none =
    none_or_itself objects before e back split (rw (repeats_of objects before e back bs split is) at none)

heads_are : (objects : List Object) (before : List Entry) (e : Entry) (back : List Entry) (bs : List Bearer) → before ++ e ∷ back ≡ entries_of 0 objects → bs ≡ bearers e.name (entries_of 0 objects) → bs ≡ bearers e.name (before ++ e ∷ back)
heads_are objects before e back bs split is = is ∙ ap (bearers e.name) (sym split)

abbrev pub Leads : List Bearer → Entry → Type 0
Leads bs e = option_map (λ (b : Bearer). b.place) (slice_get bs 0) ≡ Some e.place

leads_new : (objects : List Object) (before : List Entry) (e : Entry) (back : List Entry) (bs : List Bearer) → before ++ e ∷ back ≡ entries_of 0 objects → bs ≡ bearers e.name (entries_of 0 objects) → Leads bs e → list_any (is_named e.name) before ≡ false
leads_new objects before e back bs split is leads = elim (cases_Bool (list_any (is_named e.name) before)) [
  | inl t ↦ absurd (head_old objects before e back split t (subst (λ (cs : List Bearer). Leads cs e) (heads_are objects before e back bs split is) leads))
  | inr f ↦ f
]

leads_old : (objects : List Object) (before : List Entry) (e : Entry) (back : List Entry) (bs : List Bearer) → before ++ e ∷ back ≡ entries_of 0 objects → bs ≡ bearers e.name (entries_of 0 objects) → (Leads bs e → ⊥) → list_any (is_named e.name) before ≡ true
leads_old objects before e back bs split is not = elim (cases_Bool (list_any (is_named e.name) before)) [
  | inl t ↦ t
  | inr f ↦ absurd (not (subst (λ (cs : List Bearer). Leads cs e) (sym (heads_are objects before e back bs split is)) (head_new before e back f)))
]

pub tells_put : (lists : List ℕ → Option (List Bearer)) (old new : List ℕ → Firsts) (e : Entry) (bs : List Bearer) (s t : ℕ) → bs ≡ unwrap_or (lists e.name) [] → NoRepeat bs e → Leads bs e → ((q : List ℕ) → new q ≡ cond (bytes_eq e.name q) (firsts_among bs) (old q)) → t ≡ s + 2 → Tells lists old new (e ∷ []) s t None
tells_put lists old new e bs s t look none leads put cost = λ objects before back have split told.
    let is = looked_up lists objects e.name bs have look in
    let fresh = leads_new objects before e back bs split is leads in
    let firsts : firsts_among bs ≡ firsts_of e.name (entries_of 0 objects) = ap firsts_among is ∙ firsts_among_are e.name (entries_of 0 objects) in
    let one : new_names before (e ∷ []) ≡ 1 = rw fresh refl in (
      told_put (entries_of 0 objects) before e old new (rw firsts at put) (no_repeat objects before e back bs split is none) told,
      omega (arith, one, cost),
    )

pub tells_before : (lists : List ℕ → Option (List Bearer)) (old : List ℕ → Firsts) (e : Entry) (bs : List Bearer) (s t : ℕ) → bs ≡ unwrap_or (lists e.name) [] → NoRepeat bs e → (Leads bs e → ⊥) → t ≡ s + 1 → Tells lists old old (e ∷ []) s t None
tells_before lists old e bs s t look none not cost = λ objects before back have split told.
    let is = looked_up lists objects e.name bs have look in
    let known = leads_old objects before e back bs split is not in
    let zero-more : new_names before (e ∷ []) ≡ 0 = rw known refl in (
      told_before (entries_of 0 objects) before e old known (no_repeat objects before e back bs split is none) told,
      omega (arith, zero-more, cost),
    )

pub tells_repeat : (lists : List ℕ → Option (List Bearer)) (old new : List ℕ → Firsts) (e : Entry) (bs : List Bearer) (s t : ℕ) (pair : Pair) → bs ≡ unwrap_or (lists e.name) [] → repeat_in (firsts_among bs) e.strength ≡ Some pair.first → (pair.first ≡ e.place → ⊥) → e.name ≡ pair.name → e.place ≡ pair.second → Tells lists old new (e ∷ []) s t (Some pair)
tells_repeat lists old new e bs s t pair look first apart name place = λ objects before back have split told.
    let is = looked_up lists objects e.name bs have look in
    record {
      front = before;
      entry = e;
      back = back;
      split = split;
      name_is = name;
      second_is = place;
      repeats = met_before before e back pair.first (sym (repeats_of objects before e back bs split is) ∙ first) apart;
      earliest = told.clear;
    }

-- ---- one after the other

names_append : (before xs ys : List Entry) → new_names before (xs ++ ys) ≡ new_names before xs + new_names (before ++ xs) ys
names_append before [] ys = let zero-more : 0 + new_names before ys ≡ new_names before ys = omega arith in rw (append-nil before) (sym zero-more)
names_append before (e ∷ xs) ys =
    let rest = names_append (before ++ e ∷ []) xs ys in
    let same : (before ++ e ∷ []) ++ xs ≡ before ++ e ∷ xs = append_assoc before (e ∷ []) xs in
    let all : new_names (before ++ e ∷ []) (xs ++ ys) ≡ new_names (before ++ e ∷ []) xs + new_names (before ++ e ∷ xs) ys = rw same at rest in
    omega (arith, all)

pub tells_none : (lists : List ℕ → Option (List Bearer)) (a : List ℕ → Firsts) (s : ℕ) → Tells lists a a [] s s None
tells_none lists a s = λ objects before back have split told. (rw (append-nil before) told, omega arith)

pub tells_all : (lists : List ℕ → Option (List Bearer)) (a b c : List ℕ → Firsts) (xs ys : List Entry) (s t u : ℕ) → Tells lists a b xs s t None → Tells lists b c ys t u None → Tells lists a c (xs ++ ys) s u None
tells_all lists a b c xs ys s t u tell more = λ objects before back have split told.
    let split-x : before ++ (xs ++ (ys ++ back)) ≡ entries_of 0 objects = ap (λ (zs : List Entry). before ++ zs) (sym (append_assoc xs ys back)) ∙ split in
    let first = tell objects before (ys ++ back) have split-x told in
    let second = more objects (before ++ xs) back have (append_assoc before xs (ys ++ back) ∙ split-x) first.0 in
    let names = names_append before xs ys in
    let long : length (xs ++ ys) ≡ length xs + length ys = length-append xs ys in
    let one = first.1 in
    let two = second.1 in
    (rw (← append_assoc before xs ys) second.0, omega (arith, names, long, one, two))

pub tells_early : (lists : List ℕ → Option (List Bearer)) (a b c : List ℕ → Firsts) (xs ys back all : List Entry) (s t u : ℕ) (pair : Pair) → Tells lists a b xs s t None → Tells lists b c ys t u (Some pair) → xs ++ (ys ++ back) ≡ all → Tells lists a c all s u (Some pair)
tells_early lists a b c xs ys back all s t u pair tell more whole = λ objects before rest have split told.
    let inner : xs ++ (ys ++ (back ++ rest)) ≡ all ++ rest =
    ap (λ (zs : List Entry). xs ++ zs) (sym (append_assoc ys back rest))
    ∙ (sym (append_assoc xs (ys ++ back) rest) ∙ ap (λ (zs : List Entry). zs ++ rest) whole) in
    let split-x : before ++ (xs ++ (ys ++ (back ++ rest))) ≡ entries_of 0 objects = ap (λ (zs : List Entry). before ++ zs) inner ∙ split in
    let first = tell objects before (ys ++ (back ++ rest)) have split-x told in
    more objects (before ++ xs) (back ++ rest) have (append_assoc before xs (ys ++ (back ++ rest)) ∙ split-x) first.0

-- ---- a whole table

-- no more names than entries
names_few_from : (before es : List Entry) → new_names before es ≤ length es
names_few_from before [] = omega arith
names_few_from before (e ∷ es) =
    let rest = names_few_from (before ++ e ∷ []) es in
    elim (cases_Bool (list_any (is_named e.name) before)) [ inl t ↦ rw t (omega (arith, rest)) | inr f ↦ rw f (omega (arith, rest)) ]

pub names_few : (es : List Entry) → new_names [] es ≤ length es
names_few es = names_few_from [] es

-- all entries are taken, from none on
pub told_whole : (lists : List ℕ → Option (List Bearer)) (objects : List Object) (old new : List ℕ → Firsts) (entries : List Entry) (s t : ℕ) → entries ≡ entries_of 0 objects → Lists lists entries → ((q : List ℕ) → old q ≡ no_firsts) → Tells lists old new entries s t None → IsTold (entries_of 0 objects) (entries_of 0 objects) new × (t ≡ s + length (entries_of 0 objects) + new_names [] (entries_of 0 objects))
told_whole lists objects old new entries s t is have none tells =
    rw is at (tells objects [] [] (rw is at have) (append-nil entries ∙ is) (told_none (entries_of 0 objects) old none))

pub met_whole : (lists : List ℕ → Option (List Bearer)) (objects : List Object) (old new : List ℕ → Firsts) (entries : List Entry) (s t : ℕ) (pair : Pair) → entries ≡ entries_of 0 objects → Lists lists entries → ((q : List ℕ) → old q ≡ no_firsts) → Tells lists old new entries s t (Some pair) → AreTwo (entries_of 0 objects) pair
met_whole lists objects old new entries s t pair is have none tells =
    tells objects [] [] (rw is at have) (append-nil entries ∙ is) (told_none (entries_of 0 objects) old none)
