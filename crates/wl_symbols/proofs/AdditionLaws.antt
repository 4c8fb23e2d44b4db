-- What is added to the names, one entry and one object after another.
use Rattle.std.proofs.Common.{◌≡◌, ◌<◌, ℕ, zero, suc, ◌+◌, List, [], ◌∷◌, ◌++◌, length, take, drop, get_or, refl, sym, ap, ◌∙◌, inl, inr, ◌⊎◌, Some, None, slice_get, arith, false, add-one}
use Rattle.std.proofs.lemmas.List.{append_assoc, append-nil, take_more, take-append-drop, length-take-le}
use Rattle.std.proofs.Math.Seq.{drop-cons, take-append_seam}
use Rattle.wl_custom.specs.Symbols.{Symbol as LinkedSymbol}
use Rattle.wl_linking.specs.Object.{Object}
use Rattle.wl_symbols.specs.Entries.{Entry, is_private, entry_for, entries_at, entries_from, entries_of}
use Rattle.wl_symbols.specs.Repeats.{Pair}
use Rattle.wl_symbols.specs.Adding.{repeat_of, NoneRepeats, AreTwo, AddsOne, Adds, Meets}
use Rattle.wl_symbols.specs.declared.entry.Firsts.{Firsts}

-- ---- one more entry at the end

last_cases : (xs : List Entry) (x : Entry) (k : ℕ) (e : Entry) → slice_get (xs ++ x ∷ []) k ≡ Some e → ((slice_get xs k ≡ Some e) × (take k (xs ++ x ∷ []) ≡ take k xs)) ⊎ ((x ≡ e) × (take k (xs ++ x ∷ []) ≡ xs))
last_cases [] x zero e h = inr (cc, refl)
last_cases [] x (suc k) e h = absurd cc
last_cases (y ∷ xs) x zero e h = inl (h, refl)
last_cases (y ∷ xs) x (suc k) e h =
    elim (last_cases xs x k e h) [
      | inl c ↦ inl (c.0, ap (λ (zs : List Entry). y ∷ zs) c.1)
      | inr c ↦ inr (c.0, ap (λ (zs : List Entry). y ∷ zs) c.1)
    ]

pub none_more : (xs : List Entry) (x : Entry) → NoneRepeats xs → repeat_of xs x ≡ None → NoneRepeats (xs ++ x ∷ [])
none_more xs x clear new = λ k e h.
    elim (last_cases xs x k e h) [
      | inl c ↦ rw c.1 (clear k e c.0)
      | inr c ↦ rw (c.1, ← c.0) new
    ]

pub none_none : NoneRepeats []
none_none = λ k e h. absurd cc

-- ---- what is added

pub adds_none : (a : List ℕ → Firsts) → Adds a a []
adds_none a = record {
  found = λ before holds. rw (append-nil before) holds;
  clear = λ before holds none. rw (append-nil before) none;
}

adds_more : (a b c : List ℕ → Firsts) (xs : List Entry) (e : Entry) → Adds a b xs → AddsOne b c e None → Adds a c (xs ++ e ∷ [])
adds_more a b c xs e adds one = record {
  found = λ before holds. rw (← append_assoc before xs (e ∷ [])) ((one (before ++ xs) (adds.found before holds)).1);
  clear = λ before holds none. rw (← append_assoc before xs (e ∷ [])) (none_more (before ++ xs) e (adds.clear before holds none) ((one (before ++ xs) (adds.found before holds)).0));
}

pub adds_all : (a b c : List ℕ → Firsts) (xs ys : List Entry) → Adds a b xs → Adds b c ys → Adds a c (xs ++ ys)
adds_all a b c xs ys adds more = record {
  found = λ before holds. rw (← append_assoc before xs ys) (more.found (before ++ xs) (adds.found before holds));
  clear = λ before holds none. rw (← append_assoc before xs ys) (more.clear (before ++ xs) (adds.found before holds) (adds.clear before holds none));
}

-- what is reported at an entry is the first repeat among all
meets_one : (a b c : List ℕ → Firsts) (xs back all : List Entry) (e : Entry) (pair : Pair) → Adds a b xs → AddsOne b c e (Some pair.first) → e.name ≡ pair.name → e.place ≡ pair.second → xs ++ e ∷ back ≡ all → Meets a all pair
meets_one a b c xs back all e pair adds one name place split = λ before holds none. record {
  front = before ++ xs;
  entry = e;
  back = back;
  split = append_assoc before xs (e ∷ back) ∙ ap (λ (zs : List Entry). before ++ zs) split;
  name_is = name;
  second_is = place;
  repeats = one (before ++ xs) (adds.found before holds);
  earliest = adds.clear before holds none;
}

more_behind : (xs ys zs : List Entry) (pair : Pair) → xs ++ ys ≡ zs → AreTwo xs pair → AreTwo zs pair
more_behind xs ys zs pair same r = record {
  front = r.front;
  entry = r.entry;
  back = r.back ++ ys;
  split = sym (append_assoc r.front (r.entry ∷ r.back) ys) ∙ (ap (λ (ws : List Entry). ws ++ ys) r.split ∙ same);
  name_is = r.name_is;
  second_is = r.second_is;
  repeats = r.repeats;
  earliest = r.earliest;
}

pub meets_all : (a b : List ℕ → Firsts) (xs ys back all : List Entry) (pair : Pair) → Adds a b xs → Meets b ys pair → xs ++ (ys ++ back) ≡ all → Meets a all pair
meets_all a b xs ys back all pair adds meets split = λ before holds none.
    more_behind ((before ++ xs) ++ ys) back (before ++ all) pair
    (append_assoc (before ++ xs) ys back ∙ (append_assoc before xs (ys ++ back) ∙ ap (λ (zs : List Entry). before ++ zs) split))
    (meets (before ++ xs) (adds.found before holds) (adds.clear before holds none))

-- ---- one symbol

pub adds_symbol : (a c : List ℕ → Firsts) (object i : ℕ) (s : LinkedSymbol) (e : Entry) → is_private s ≡ false → e ≡ entry_for object i s → AddsOne a c e None → Adds a c (entries_at object i s)
adds_symbol a c object i s e p is one = rw (p, ← is) (adds_more a a c [] e (adds_none a) one)

pub meets_symbol : (a c : List ℕ → Firsts) (object i : ℕ) (s : LinkedSymbol) (e : Entry) (pair : Pair) → is_private s ≡ false → e ≡ entry_for object i s → AddsOne a c e (Some pair.first) → e.name ≡ pair.name → e.place ≡ pair.second → Meets a (entries_at object i s) pair
meets_symbol a c object i s e pair p is one name place = rw (p, ← is) (meets_one a a c [] [] (e ∷ []) e pair (adds_none a) one name place refl)

-- ---- where none repeats

at_seam : (front : List Entry) (e : Entry) (back : List Entry) → slice_get (front ++ e ∷ back) (length front) ≡ Some e
at_seam [] e back = refl
at_seam (x ∷ front) e back = at_seam front e back

pub none_at : (entries front : List Entry) (e : Entry) (back : List Entry) → front ++ e ∷ back ≡ entries → NoneRepeats entries → repeat_of front e ≡ None
none_at entries front e back split none =
    let at : slice_get entries (length front) ≡ Some e = rw (← split) (at_seam front e back) in
    let same : take (length front) entries ≡ front = rw (← split) (take-append_seam front (e ∷ back)) in
    rw (← same) (none (length front) e at)

-- ---- the entries of an object

pub entries_from-append : (object i : ℕ) (xs ys : List LinkedSymbol) → entries_from object i (xs ++ ys) ≡ entries_from object i xs ++ entries_from object (i + length xs) ys
entries_from-append object i [] ys = let e : i + 0 ≡ i = omega arith in rw e refl
entries_from-append object i (x ∷ xs) ys =
    let e : i + 1 + length xs ≡ i + suc (length xs) = omega arith in
    ap (λ (zs : List Entry). entries_at object i x ++ zs) (entries_from-append object (i + 1) xs ys ∙ rw e refl)
    ∙ sym (append_assoc (entries_at object i x) (entries_from object (i + 1) xs) (entries_from object (i + suc (length xs)) ys))

-- what comes after a symbol
pub symbols_split : (object k : ℕ) (symbols : List LinkedSymbol) (s : LinkedSymbol) → k < length symbols → s ≡ get_or symbols k s → entries_from object 0 (take k symbols) ++ (entries_at object k s ++ entries_from object (k + 1) (drop (k + 1) symbols)) ≡ entries_from object 0 symbols
symbols_split object k symbols s lt is =
    let len : length (take k symbols) ≡ k = length-take-le k symbols (omega arith) in
    let parts : drop k symbols ≡ s ∷ drop (k + 1) symbols = drop-cons symbols k s lt ∙ rw (← is, add-one k) refl in
    let all : entries_from object 0 (take k symbols ++ drop k symbols) ≡ entries_from object 0 (take k symbols) ++ entries_from object (0 + length (take k symbols)) (drop k symbols) = entries_from-append object 0 (take k symbols) (drop k symbols) in
    let zero-len : 0 + length (take k symbols) ≡ k = omega (arith, len) in
    sym (ap (entries_from object 0) (sym (take-append-drop k symbols)) ∙ (all ∙ rw (zero-len, parts) refl))

pub symbols_more : (object k : ℕ) (symbols : List LinkedSymbol) (s : LinkedSymbol) → k < length symbols → s ≡ get_or symbols k s → entries_from object 0 (take (k + 1) symbols) ≡ entries_from object 0 (take k symbols) ++ entries_at object k s
symbols_more object k symbols s lt is =
    let len : length (take k symbols) ≡ k = length-take-le k symbols (omega arith) in
    let zero-len : 0 + length (take k symbols) ≡ k = omega (arith, len) in
    let more : take (k + 1) symbols ≡ take k symbols ++ s ∷ [] = take_more symbols k s lt ∙ ap (λ (x : LinkedSymbol). take k symbols ++ x ∷ []) (sym is) in
    ap (entries_from object 0) more
    ∙ (entries_from-append object 0 (take k symbols) (s ∷ []) ∙ rw (zero-len, append-nil (entries_at object k s)) refl)

-- ---- the entries of objects

pub entries_of-append : (i : ℕ) (xs ys : List Object) → entries_of i (xs ++ ys) ≡ entries_of i xs ++ entries_of (i + length xs) ys
entries_of-append i [] ys = let e : i + 0 ≡ i = omega arith in rw e refl
entries_of-append i (x ∷ xs) ys =
    let e : i + 1 + length xs ≡ i + suc (length xs) = omega arith in
    ap (λ (zs : List Entry). entries_from i 0 x.symbols ++ zs) (entries_of-append (i + 1) xs ys ∙ rw e refl)
    ∙ sym (append_assoc (entries_from i 0 x.symbols) (entries_of (i + 1) xs) (entries_of (i + suc (length xs)) ys))

pub objects_split : (k : ℕ) (objects : List Object) (o : Object) → k < length objects → o ≡ get_or objects k o → entries_of 0 (take k objects) ++ (entries_from k 0 o.symbols ++ entries_of (k + 1) (drop (k + 1) objects)) ≡ entries_of 0 objects
objects_split k objects o lt is =
    let len : length (take k objects) ≡ k = length-take-le k objects (omega arith) in
    let parts : drop k objects ≡ o ∷ drop (k + 1) objects = drop-cons objects k o lt ∙ rw (← is, add-one k) refl in
    let zero-len : 0 + length (take k objects) ≡ k = omega (arith, len) in
    sym (ap (entries_of 0) (sym (take-append-drop k objects)) ∙ (entries_of-append 0 (take k objects) (drop k objects) ∙ rw (zero-len, parts) refl))

pub objects_more : (k : ℕ) (objects : List Object) (o : Object) → k < length objects → o ≡ get_or objects k o → entries_of 0 (take (k + 1) objects) ≡ entries_of 0 (take k objects) ++ entries_from k 0 o.symbols
objects_more k objects o lt is =
    let len : length (take k objects) ≡ k = length-take-le k objects (omega arith) in
    let zero-len : 0 + length (take k objects) ≡ k = omega (arith, len) in
    let more : take (k + 1) objects ≡ take k objects ++ o ∷ [] = take_more objects k o lt ∙ ap (λ (x : Object). take k objects ++ x ∷ []) (sym is) in
    ap (entries_of 0) more
    ∙ (entries_of-append 0 (take k objects) (o ∷ []) ∙ rw (zero-len, append-nil (entries_from k 0 o.symbols)) refl)
