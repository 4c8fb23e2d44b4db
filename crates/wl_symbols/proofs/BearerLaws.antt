-- For each name the symbols that bear it, while objects change.
use Rattle.std.proofs.Common.{◌≡◌, ◌==◌, ◌≤◌, ◌<◌, ◌-◌, ℕ, zero, suc, ◌+◌, Bool, true, false, cond, ◌||◌, Result, Ok, Err, IsOk, OnOk, List, [], ◌∷◌, ◌++◌, length, map, set, replicate, refl, sym, ap, ◌∙◌, inl, inr, Option, Some, None, unwrap_or, append_assoc, append-nil, arith, eqb-true}
use Rattle.std.specs.Bool.{nat_lt}
use Rattle.std.specs.List.{filter, list_any, AllByRecursion}
use Rattle.std.specs.Str.{bytes_eq}
use Rattle.std.proofs.lemmas.Bool.{cases_Bool, lt-ltb, le-ltb}
use Rattle.std.proofs.lemmas.List.{map-append, length-replicate}
use Rattle.std.proofs.lemmas.List.Concat.{flat_map-append}
use Rattle.std.proofs.lemmas.List.Elements.{filter-append}
use Rattle.std.proofs.lemmas.List.Folds.{list_any-append}
use Rattle.std.proofs.lemmas.Slice.Eq.{bytes_eq-Decides}
use Rattle.wl_custom.specs.Symbols.{Symbol as LinkedSymbol}
use Rattle.wl_symbols.specs.Entries.{Entry, is_private, entries_from}
use Rattle.wl_symbols.specs.Index.{all_entries, padded, AreNumbered, IsIndexed, entries_in}
use Rattle.wl_symbols.specs.Bearers.{bearer_of, is_named, bearers, if_some, Lists}
use Rattle.wl_symbols.specs.Exchanging.{bearers_before, bearers_behind, exchanged, Change, changes_for, changed}
use Rattle.wl_symbols.specs.declared.bearers.Bearer.{Bearer}

-- ---- the symbols of a name

pub bearers-append : (q : List ℕ) (xs ys : List Entry) → bearers q (xs ++ ys) ≡ bearers q xs ++ bearers q ys
bearers-append q xs ys = ap (map bearer_of) (filter-append (is_named q) xs ys) ∙ map-append bearer_of (filter (is_named q) xs) (filter (is_named q) ys)

-- none bears a name that no entry has
pub none_bears : (q : List ℕ) (xs : List Entry) → list_any (is_named q) xs ≡ false → bearers q xs ≡ []
none_bears q [] none = refl
none_bears q (x ∷ xs) none = elim (cases_Bool (bytes_eq x.name q)) [
  | inl t ↦ (let told = rw t at none in absurd cc)
  | inr f ↦ rw f (none_bears q xs (rw f at none))
]

pub or_none : (bs : List Bearer) → unwrap_or (if_some bs) [] ≡ bs
or_none [] = refl
or_none (b ∷ bs) = refl

if_some-push : (bs : List Bearer) (b : Bearer) → if_some (bs ++ b ∷ []) ≡ Some (bs ++ b ∷ [])
if_some-push [] b = refl
if_some-push (x ∷ bs) b = refl

pub lists_none : (found : List ℕ → Option (List Bearer)) → ((name : List ℕ) → found name ≡ None) → Lists found []
lists_none found none = none

pub lists_more : (old new : List ℕ → Option (List Bearer)) (e : Entry) (xs : List Entry) → Lists old xs → ((q : List ℕ) → new q ≡ cond (bytes_eq e.name q) (Some (unwrap_or (old e.name) [] ++ bearer_of e ∷ [])) (old q)) → Lists new (xs ++ e ∷ [])
lists_more old new e xs lists put = λ q. elim (cases_Bool (bytes_eq e.name q)) [
  | inl t ↦ (let same : e.name ≡ q = (bytes_eq-Decides e.name q).0 t in
      let n : new q ≡ Some (unwrap_or (old e.name) [] ++ bearer_of e ∷ []) = rw t at (put q) in
      let was : unwrap_or (old e.name) [] ≡ bearers q xs = ap (λ (o : Option (List Bearer)). unwrap_or o []) (lists e.name) ∙ (or_none (bearers e.name xs) ∙ ap (λ (r : List ℕ). bearers r xs) same) in
      let one : bearers q (e ∷ []) ≡ bearer_of e ∷ [] = rw t refl in
      let all : bearers q (xs ++ e ∷ []) ≡ bearers q xs ++ bearer_of e ∷ [] = bearers-append q xs (e ∷ []) ∙ ap (λ (bs : List Bearer). bearers q xs ++ bs) one in
      n ∙ (ap (λ (bs : List Bearer). Some (bs ++ bearer_of e ∷ [])) was ∙ sym (ap if_some all ∙ if_some-push (bearers q xs) (bearer_of e))))
  | inr f ↦ (let n : new q ≡ old q = rw f at (put q) in
      let one : bearers q (e ∷ []) ≡ [] = rw f refl in
      let all : bearers q (xs ++ e ∷ []) ≡ bearers q xs = bearers-append q xs (e ∷ []) ∙ (ap (λ (bs : List Bearer). bearers q xs ++ bs) one ∙ append-nil (bearers q xs)) in
      n ∙ (lists q ∙ sym (ap if_some all)))
]

-- ---- the symbols of an object among others

keep_all : (q : List ℕ) (k i : ℕ) (es : List Entry) → nat_lt i k ≡ true → AllByRecursion (λ (e : Entry). e.place.object ≡ i) es → bearers_before k (bearers q es) ≡ bearers q es
keep_all q k i [] lt all = refl
keep_all q k i (e ∷ es) lt all =
    let t : nat_lt e.place.object k ≡ true = ap (λ j. nat_lt j k) all.0 ∙ lt in
    elim (cases_Bool (bytes_eq e.name q)) [
      | inl n ↦ rw (n, t) (ap (λ (bs : List Bearer). bearer_of e ∷ bs) (keep_all q k i es lt all.1))
      | inr n ↦ rw n (keep_all q k i es lt all.1)
    ]

keep_none : (q : List ℕ) (k i : ℕ) (es : List Entry) → nat_lt i k ≡ false → AllByRecursion (λ (e : Entry). e.place.object ≡ i) es → bearers_before k (bearers q es) ≡ []
keep_none q k i [] lt all = refl
keep_none q k i (e ∷ es) lt all =
    let t : nat_lt e.place.object k ≡ false = ap (λ j. nat_lt j k) all.0 ∙ lt in
    elim (cases_Bool (bytes_eq e.name q)) [
      | inl n ↦ rw (n, t) (keep_none q k i es lt all.1)
      | inr n ↦ rw n (keep_none q k i es lt all.1)
    ]

leave_all : (q : List ℕ) (k i : ℕ) (es : List Entry) → nat_lt k i ≡ true → AllByRecursion (λ (e : Entry). e.place.object ≡ i) es → bearers_behind k (bearers q es) ≡ bearers q es
leave_all q k i [] lt all = refl
leave_all q k i (e ∷ es) lt all =
    let t : nat_lt k e.place.object ≡ true = ap (λ j. nat_lt k j) all.0 ∙ lt in
    elim (cases_Bool (bytes_eq e.name q)) [
      | inl n ↦ rw (n, t) (ap (λ (bs : List Bearer). bearer_of e ∷ bs) (leave_all q k i es lt all.1))
      | inr n ↦ rw n (leave_all q k i es lt all.1)
    ]

leave_none : (q : List ℕ) (k i : ℕ) (es : List Entry) → nat_lt k i ≡ false → AllByRecursion (λ (e : Entry). e.place.object ≡ i) es → bearers_behind k (bearers q es) ≡ []
leave_none q k i [] lt all = refl
leave_none q k i (e ∷ es) lt all =
    let t : nat_lt k e.place.object ≡ false = ap (λ j. nat_lt k j) all.0 ∙ lt in
    elim (cases_Bool (bytes_eq e.name q)) [
      | inl n ↦ rw (n, t) (leave_none q k i es lt all.1)
      | inr n ↦ rw n (leave_none q k i es lt all.1)
    ]

both_before : (k : ℕ) (xs ys : List Bearer) → bearers_before k (xs ++ ys) ≡ bearers_before k xs ++ bearers_before k ys
both_before k xs ys = filter-append (λ (b : Bearer). nat_lt b.place.object k) xs ys

both_behind : (k : ℕ) (xs ys : List Bearer) → bearers_behind k (xs ++ ys) ≡ bearers_behind k xs ++ bearers_behind k ys
both_behind k xs ys = filter-append (λ (b : Bearer). nat_lt k b.place.object) xs ys

-- all of these objects are later ones
later_before : (q : List ℕ) (k i : ℕ) (index : List (List Entry)) → k ≤ i → AreNumbered i index → bearers_before k (bearers q (all_entries index)) ≡ []
later_before q k i [] le n = refl
later_before q k i (es ∷ index) le n =
    ap (bearers_before k) (bearers-append q es (all_entries index))
    ∙ (both_before k (bearers q es) (bearers q (all_entries index))
    ∙ (ap (λ (bs : List Bearer). bs ++ bearers_before k (bearers q (all_entries index))) (keep_none q k i es (le-ltb i k le) n.0)
    ∙ later_before q k (i + 1) index (omega (arith, le)) n.1))

later_behind : (q : List ℕ) (k i : ℕ) (index : List (List Entry)) → k < i → AreNumbered i index → bearers_behind k (bearers q (all_entries index)) ≡ bearers q (all_entries index)
later_behind q k i [] lt n = refl
later_behind q k i (es ∷ index) lt n =
    ap (bearers_behind k) (bearers-append q es (all_entries index))
    ∙ (both_behind k (bearers q es) (bearers q (all_entries index))
    ∙ (ap (λ (bs : List Bearer). bs ++ bearers_behind k (bearers q (all_entries index))) (leave_all q k i es (lt-ltb k i lt) n.0)
    ∙ (ap (λ (bs : List Bearer). bearers q es ++ bs) (later_behind q k (i + 1) index (omega (arith, lt)) n.1)
    ∙ sym (bearers-append q es (all_entries index)))))

-- exchanged are those of the object
exchanged_at : (q : List ℕ) (i k : ℕ) (index : List (List Entry)) (xs : List Entry) → AreNumbered i index → k < length index → exchanged (i + k) (bearers q xs) (bearers q (all_entries index)) ≡ bearers q (all_entries (set index k xs))
exchanged_at q i k [] xs n lt = absurd (omega (arith, lt))
exchanged_at q i zero (es ∷ index) xs n lt =
    let e : i + 0 ≡ i = omega arith in
    let rest = bearers q (all_entries index) in
    let before : bearers_before i (bearers q (es ++ all_entries index)) ≡ [] =
    ap (bearers_before i) (bearers-append q es (all_entries index))
    ∙ (both_before i (bearers q es) rest
    ∙ (ap (λ (bs : List Bearer). bs ++ bearers_before i rest) (keep_none q i i es (le-ltb i i (omega arith)) n.0)
    ∙ later_before q i (i + 1) index (omega arith) n.1)) in
    let behind : bearers_behind i (bearers q (es ++ all_entries index)) ≡ rest =
    ap (bearers_behind i) (bearers-append q es (all_entries index))
    ∙ (both_behind i (bearers q es) rest
    ∙ (ap (λ (bs : List Bearer). bs ++ bearers_behind i rest) (leave_none q i i es (le-ltb i i (omega arith)) n.0)
    ∙ later_behind q i (i + 1) index (omega arith) n.1)) in
    rw e (ap (λ (bs : List Bearer). bs ++ (bearers q xs ++ bearers_behind i (bearers q (es ++ all_entries index)))) before
    ∙ (ap (λ (bs : List Bearer). bearers q xs ++ bs) behind ∙ sym (bearers-append q xs (all_entries index))))
exchanged_at q i (suc k) (es ∷ index) xs n lt =
    let e : i + 1 + k ≡ i + suc k = omega arith in
    let rest = bearers q (all_entries index) in
    let front : nat_lt i (i + suc k) ≡ true = lt-ltb i (i + suc k) (omega arith) in
    let back : nat_lt (i + suc k) i ≡ false = le-ltb (i + suc k) i (omega arith) in
    let inner : exchanged (i + suc k) (bearers q xs) rest ≡ bearers q (all_entries (set index k xs)) = rw e at (exchanged_at q (i + 1) k index xs n.1 (omega (arith, lt))) in
    let before : bearers_before (i + suc k) (bearers q (es ++ all_entries index)) ≡ bearers q es ++ bearers_before (i + suc k) rest =
    ap (bearers_before (i + suc k)) (bearers-append q es (all_entries index))
    ∙ (both_before (i + suc k) (bearers q es) rest
    ∙ ap (λ (bs : List Bearer). bs ++ bearers_before (i + suc k) rest) (keep_all q (i + suc k) i es front n.0)) in
    let behind : bearers_behind (i + suc k) (bearers q (es ++ all_entries index)) ≡ bearers_behind (i + suc k) rest =
    ap (bearers_behind (i + suc k)) (bearers-append q es (all_entries index))
    ∙ (both_behind (i + suc k) (bearers q es) rest
    ∙ ap (λ (bs : List Bearer). bs ++ bearers_behind (i + suc k) rest) (leave_none q (i + suc k) i es back n.0)) in
    ap (λ (bs : List Bearer). bs ++ (bearers q xs ++ bearers_behind (i + suc k) (bearers q (es ++ all_entries index)))) before
    ∙ (ap (λ (bs : List Bearer). (bearers q es ++ bearers_before (i + suc k) rest) ++ (bearers q xs ++ bs)) behind
    ∙ (append_assoc (bearers q es) (bearers_before (i + suc k) rest) (bearers q xs ++ bearers_behind (i + suc k) rest)
    ∙ (ap (λ (bs : List Bearer). bearers q es ++ bs) inner ∙ sym (bearers-append q es (all_entries (set index k xs))))))

-- a name that the object has neither before nor afterwards
unchanged_at : (q : List ℕ) (k : ℕ) (index : List (List Entry)) (xs : List Entry) → bearers q (entries_in index k) ≡ [] → bearers q xs ≡ [] → bearers q (all_entries (set index k xs)) ≡ bearers q (all_entries index)
unchanged_at q k [] xs was is = refl
unchanged_at q zero (es ∷ index) xs was is =
    bearers-append q xs (all_entries index)
    ∙ (ap (λ (bs : List Bearer). bs ++ bearers q (all_entries index)) (is ∙ sym was) ∙ sym (bearers-append q es (all_entries index)))
unchanged_at q (suc k) (es ∷ index) xs was is =
    bearers-append q es (all_entries (set index k xs))
    ∙ (ap (λ (bs : List Bearer). bearers q es ++ bs) (unchanged_at q k index xs was is) ∙ sym (bearers-append q es (all_entries index)))

-- ---- objects in order

pub of_object : (object k : ℕ) (symbols : List LinkedSymbol) → AllByRecursion (λ (e : Entry). e.place.object ≡ object) (entries_from object k symbols)
of_object object k [] = tt
of_object object k (s ∷ symbols) = elim (cases_Bool (is_private s)) [
  | inl p ↦ rw p (of_object object (k + 1) symbols)
  | inr p ↦ rw p (refl, of_object object (k + 1) symbols)
]

numbered_set : (i k : ℕ) (index : List (List Entry)) (xs : List Entry) → AreNumbered i index → AllByRecursion (λ (e : Entry). e.place.object ≡ i + k) xs → AreNumbered i (set index k xs)
numbered_set i k [] xs n all = tt
numbered_set i zero (es ∷ index) xs n all = let e : i + 0 ≡ i = omega arith in (rw e at all, n.1)
numbered_set i (suc k) (es ∷ index) xs n all =
    let e : i + suc k ≡ i + 1 + k = omega arith in
    (n.0, numbered_set (i + 1) k index xs n.1 (rw e at all))

numbered_none : (i n : ℕ) → AreNumbered i (replicate n [])
numbered_none i zero = tt
numbered_none i (suc n) = (tt, numbered_none (i + 1) n)

numbered_more : (i n : ℕ) (index : List (List Entry)) → AreNumbered i index → AreNumbered i (index ++ replicate n [])
numbered_more i n [] h = numbered_none i n
numbered_more i n (es ∷ index) h = (h.0, numbered_more (i + 1) n index h.1)

no_entries : (n : ℕ) → all_entries (replicate n []) ≡ []
no_entries zero = refl
no_entries (suc n) = no_entries n

padded_entries : (n : ℕ) (index : List (List Entry)) → all_entries (padded n index) ≡ all_entries index
padded_entries n index =
    flat_map-append (λ (c : List Entry). c) index (replicate (n - length index) [])
    ∙ (ap (λ (es : List Entry). all_entries index ++ es) (no_entries (n - length index)) ∙ append-nil (all_entries index))

in_none : (n k : ℕ) → entries_in (replicate n []) k ≡ []
in_none zero k = refl
in_none (suc n) zero = refl
in_none (suc n) (suc k) = in_none n k

in_more : (n k : ℕ) (index : List (List Entry)) → entries_in (index ++ replicate n []) k ≡ entries_in index k
in_more n k [] = in_none n k
in_more n zero (es ∷ index) = refl
in_more n (suc k) (es ∷ index) = in_more n k index

padded_length : (k n : ℕ) (index : List (List Entry)) → k < length (index ++ replicate (k + 1 - length index) [])
padded_length k n [] = let e : k + 1 - 0 ≡ k + 1 = omega arith in rw e (rest k)
  where
    rest : (k : ℕ) → k < length {A = List Entry} (replicate (k + 1) [])
    rest k = let e : length {A = List Entry} (replicate (k + 1) []) ≡ k + 1 = length-replicate (k + 1) [] in omega (arith, e)
padded_length zero n (es ∷ index) = omega arith
padded_length (suc k) n (es ∷ index) =
    let h = padded_length k n index in
    let e : suc k + 1 - length (es ∷ index) ≡ k + 1 - length index = omega arith in
    rw e (omega (arith, h))

-- ---- changes

-- what the names of some entries have afterwards, and what other names have
changes_are : (found : List ℕ → Option (List Bearer)) (object : ℕ) (xs es : List Entry) (q : List ℕ) → changed (changes_for found object xs es) found q ≡ cond (list_any (is_named q) es) (if_some (exchanged object (bearers q xs) (unwrap_or (found q) []))) (found q)
changes_are found object xs [] q = refl
changes_are found object xs (e ∷ es) q = elim (cases_Bool (bytes_eq e.name q)) [
  | inl t ↦ (let same : e.name ≡ q = (bytes_eq-Decides e.name q).0 t in
      rw t (ap (λ (r : List ℕ). if_some (exchanged object (bearers r xs) (unwrap_or (found r) []))) same))
  | inr f ↦ rw f (changes_are found object xs es q)
]

neither : (a b : Bool) → (a || b) ≡ false → (a ≡ false) × (b ≡ false)
neither true b h = absurd cc
neither false b h = (refl, h)

pub exchanged_all : (found new : List ℕ → Option (List Bearer)) (index : List (List Entry)) (object : ℕ) (xs : List Entry) → IsIndexed found index → AllByRecursion (λ (e : Entry). e.place.object ≡ object) xs → ((q : List ℕ) → new q ≡ changed (changes_for found object xs (entries_in index object ++ xs)) found q) → IsIndexed new (set (padded (object + 1) index) object xs)
exchanged_all found new index object xs h all done = record {
  lists = λ q.
      let was : found q ≡ if_some (bearers q (all_entries index)) = h.lists q in
      let same : all_entries (padded (object + 1) index) ≡ all_entries index = padded_entries (object + 1) index in
      elim (cases_Bool (list_any (is_named q) (entries_in index object ++ xs))) [
        | inl t ↦ (let n : new q ≡ if_some (exchanged object (bearers q xs) (unwrap_or (found q) [])) = done q ∙ (changes_are found object xs (entries_in index object ++ xs) q ∙ rw t refl) in
            let old : unwrap_or (found q) [] ≡ bearers q (all_entries (padded (object + 1) index)) = ap (λ (o : Option (List Bearer)). unwrap_or o []) was ∙ (or_none (bearers q (all_entries index)) ∙ ap (bearers q) (sym same)) in
            let zero-more : 0 + object ≡ object = omega arith in
            let at : exchanged object (bearers q xs) (bearers q (all_entries (padded (object + 1) index))) ≡ bearers q (all_entries (set (padded (object + 1) index) object xs)) = rw zero-more at (exchanged_at q 0 object (padded (object + 1) index) xs (numbered_more 0 (object + 1 - length index) index h.numbered) (padded_length object 0 index)) in
            n ∙ ap if_some (ap (exchanged object (bearers q xs)) old ∙ at))
        | inr f ↦ (let n : new q ≡ found q = done q ∙ (changes_are found object xs (entries_in index object ++ xs) q ∙ rw f refl) in
            let no = neither (list_any (is_named q) (entries_in index object)) (list_any (is_named q) xs) (sym (list_any-append (is_named q) (entries_in index object) xs) ∙ f) in
            let none : bearers q (entries_in (padded (object + 1) index) object) ≡ [] = ap (bearers q) (in_more (object + 1 - length index) object index) ∙ none_bears q (entries_in index object) no.0 in
            n ∙ (was ∙ ap if_some (ap (bearers q) (sym same) ∙ sym (unchanged_at q object (padded (object + 1) index) xs none (none_bears q xs no.1)))))
      ];
  numbered = let zero-more : 0 + object ≡ object = omega arith in
      numbered_set 0 object (padded (object + 1) index) xs (numbered_more 0 (object + 1 - length index) index h.numbered) (rw zero-more all);
}

-- the last of changes is done
pub changed_last : (changes : List Change) (c : Change) (found new : List ℕ → Option (List Bearer)) (q : List ℕ) → ((r : List ℕ) → new r ≡ cond (bytes_eq c.name r) (if_some c.list) (found r)) → changed (changes ++ c ∷ []) found q ≡ changed changes new q
changed_last [] c found new q put = sym (put q)
changed_last (d ∷ changes) c found new q put = elim (cases_Bool (bytes_eq d.name q)) [
  | inl t ↦ rw t refl
  | inr f ↦ rw f (changed_last changes c found new q put)
]

changed_same : (changes : List Change) (found new : List ℕ → Option (List Bearer)) (q : List ℕ) → new q ≡ found q → changed changes new q ≡ changed changes found q
changed_same [] found new q same = same
changed_same (c ∷ changes) found new q same = elim (cases_Bool (bytes_eq c.name q)) [
  | inl t ↦ rw t refl
  | inr f ↦ rw f (changed_same changes found new q same)
]

-- ---- what a call leaves

pub indexed_same : (found new : List ℕ → Option (List Bearer)) (index others : List (List Entry)) → others ≡ index → ((q : List ℕ) → new q ≡ found q) → IsIndexed found index → IsIndexed new others
indexed_same found new index others is same h = rw is (record {
  lists = λ q. same q ∙ h.lists q;
  numbered = h.numbered;
})

pub indexed_exchanged : (found roomy new : List ℕ → Option (List Bearer)) (index others : List (List Entry)) (object : ℕ) (xs : List Entry) → others ≡ set (padded (object + 1) index) object xs → ((q : List ℕ) → roomy q ≡ found q) → ((q : List ℕ) → new q ≡ changed (changes_for found object xs (entries_in index object ++ xs)) roomy q) → IsIndexed found index → AllByRecursion (λ (e : Entry). e.place.object ≡ object) xs → IsIndexed new others
indexed_exchanged found roomy new index others object xs is same done h all =
    rw is (exchanged_all found new index object xs h all
    (λ q. done q ∙ changed_same (changes_for found object xs (entries_in index object ++ xs)) found roomy q (same q)))

-- ---- a map of lists

pub none_if_empty : (bs : List Bearer) → (length bs == 0) ≡ true → if_some bs ≡ None
none_if_empty [] empty = refl
none_if_empty (b ∷ bs) empty = let e : suc (length bs) ≡ 0 = eqb-true (suc (length bs)) 0 empty in absurd (omega (arith, e))

pub some_if_not : (bs : List Bearer) → (length bs == 0) ≡ false → if_some bs ≡ Some bs
some_if_not [] empty = absurd cc
some_if_not (b ∷ bs) empty = refl

pub where_ok : {T E : Type 0} (r : Result T E) (P : Type 0) → IsOk r → OnOk r P → P
where_ok (Ok v) P is p = p
where_ok (Err e) P is p = absurd cc

-- what was taken out is put in again, with more
pub put_again : (b : Bool) (out put old new more : Option (List Bearer)) → new ≡ cond b put out → out ≡ cond b None old → put ≡ more → new ≡ cond b more old
put_again true out put old new more is was same = is ∙ same
put_again false out put old new more is was same = is ∙ was

pub changes_more : (found : List ℕ → Option (List Bearer)) (object : ℕ) (new xs : List Entry) (x : Entry) (first old : List Change) (c : Change) → c ≡ record { name = x.name; list = exchanged object (bearers x.name new) (unwrap_or (found x.name) []) } → old ≡ first ++ changes_for found object new xs → old ++ c ∷ [] ≡ first ++ changes_for found object new (xs ++ x ∷ [])
changes_more found object new xs x first old c is was =
    let change : Entry → Change = λ e. record { name = e.name; list = exchanged object (bearers e.name new) (unwrap_or (found e.name) []) } in
    ap (λ (cs : List Change). cs ++ c ∷ []) was
    ∙ (append_assoc first (changes_for found object new xs) (c ∷ [])
    ∙ ap (λ (cs : List Change). first ++ cs) (ap (λ (d : Change). changes_for found object new xs ++ d ∷ []) is ∙ sym (map-append change xs (x ∷ []))))

-- the list of a name with the object's symbols exchanged
pub exchanged_is : (object : ℕ) (q name : List ℕ) (new : List Entry) (added found : List ℕ → Option (List Bearer)) (list a b : List Bearer) → list ≡ exchanged object a b → a ≡ unwrap_or (added name) [] → b ≡ unwrap_or (found name) [] → name ≡ q → Lists added new → list ≡ exchanged object (bearers q new) (unwrap_or (found q) [])
exchanged_is object q name new added found list a b is first second same have =
    let mine : unwrap_or (added q) [] ≡ bearers q new = ap (λ (o : Option (List Bearer)). unwrap_or o []) (have q) ∙ or_none (bearers q new) in
    is ∙ rw (first, second, same, mine) refl

pub in_past : (index : List (List Entry)) (k : ℕ) → length index ≤ k → entries_in index k ≡ []
in_past [] k le = refl
in_past (es ∷ index) zero le = absurd (omega (arith, le))
in_past (es ∷ index) (suc k) le = in_past index k (omega (arith, le))
