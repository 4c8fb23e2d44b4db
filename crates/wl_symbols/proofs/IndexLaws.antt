-- What an index of names has follows the objects.
use Rattle.std.proofs.Common.{Result, Ok, Err, OnOk, ◌≡◌, ◌<◌, ◌≤◌, ℕ, zero, suc, ◌+◌, ◌-◌, List, [], ◌∷◌, ◌++◌, length, take, drop, set, get_or, replicate, refl, sym, ap, ◌∙◌, arith, add-one, append-nil}
use Rattle.std.proofs.lemmas.List.{take_more, take-append-drop, length-append, append_assoc, replicate_more}
use Rattle.std.proofs.lemmas.List.Concat.{flat_map-append}
use Rattle.std.proofs.Math.Seq.{drop-cons}
use Rattle.wl_linking.specs.Object.{Object}
use Rattle.wl_symbols.specs.Entries.{Entry, entries_from, entries_of}
use Rattle.wl_symbols.specs.Index.{index_from, index_of, all_entries, padded, with_object}

-- ---- one of a list, and what comes after it

pub split_at : {X : Type 0} (k : ℕ) (xs : List X) (x : X) → k < length xs → x ≡ get_or xs k x → take k xs ++ x ∷ drop (k + 1) xs ≡ xs
split_at k xs x lt is =
    let parts : drop k xs ≡ x ∷ drop (k + 1) xs = drop-cons xs k x lt ∙ rw (← is, add-one k) refl in
    rw (← parts) (take-append-drop k xs)

pub one_more : {X : Type 0} (k : ℕ) (xs : List X) (x : X) → k < length xs → x ≡ get_or xs k x → take (k + 1) xs ≡ take k xs ++ x ∷ []
one_more k xs x lt is = take_more xs k x lt ∙ ap (λ y. take k xs ++ y ∷ []) (sym is)

-- ---- entries, object by object

pub all_split : (k : ℕ) (index : List (List Entry)) (xs : List Entry) → k < length index → xs ≡ get_or index k xs → all_entries (take k index) ++ (xs ++ all_entries (drop (k + 1) index)) ≡ all_entries index
all_split k index xs lt is =
    sym (flat_map-append (λ (c : List Entry). c) (take k index) (xs ∷ drop (k + 1) index)) ∙ ap all_entries (split_at k index xs lt is)

all_push : (index : List (List Entry)) (xs : List Entry) → all_entries (index ++ xs ∷ []) ≡ all_entries index ++ xs
all_push index xs = flat_map-append (λ (c : List Entry). c) index (xs ∷ []) ∙ ap (λ (es : List Entry). all_entries index ++ es) (append-nil xs)

pub all_more : (k : ℕ) (index : List (List Entry)) (xs : List Entry) → k < length index → xs ≡ get_or index k xs → all_entries (take (k + 1) index) ≡ all_entries (take k index) ++ xs
all_more k index xs lt is = ap all_entries (one_more k index xs lt is) ∙ all_push (take k index) xs

pub within_all : (k : ℕ) (index : List (List Entry)) (xs : List Entry) → k < length index → xs ≡ get_or index k xs → length (all_entries (take k index)) + length xs ≤ length (all_entries index)
within_all k index xs lt is =
    let whole = simp length-append at (ap length (all_split k index xs lt is)) in
    omega (arith, whole)

pub more_of_all : (k : ℕ) (index : List (List Entry)) (xs : List Entry) → k < length index → xs ≡ get_or index k xs → length (all_entries (take (k + 1) index)) ≡ length (all_entries (take k index)) + length xs
more_of_all k index xs lt is = ap length (all_more k index xs lt is) ∙ length-append (all_entries (take k index)) xs

-- ---- the objects that an index follows

all_from : (i : ℕ) (objects : List Object) → all_entries (index_from i objects) ≡ entries_of i objects
all_from i [] = refl
all_from i (o ∷ objects) = ap (λ (es : List Entry). entries_from i 0 o.symbols ++ es) (all_from (i + 1) objects)

pub all_are : (objects : List Object) (index : List (List Entry)) → index ≡ index_of objects → all_entries index ≡ entries_of 0 objects
all_are objects index is = ap all_entries is ∙ all_from 0 objects

as_many : (i : ℕ) (objects : List Object) → length (index_from i objects) ≡ length objects
as_many i [] = refl
as_many i (o ∷ objects) = ap suc (as_many (i + 1) objects)

index_append : (i : ℕ) (objects : List Object) (o : Object) → index_from i (objects ++ o ∷ []) ≡ index_from i objects ++ entries_from (i + length objects) 0 o.symbols ∷ []
index_append i [] o = let e : i + 0 ≡ i = omega arith in rw e refl
index_append i (x ∷ objects) o =
    let e : i + 1 + length objects ≡ i + suc (length objects) = omega arith in
    ap (λ (es : List (List Entry)). entries_from i 0 x.symbols ∷ es) (rw e at (index_append (i + 1) objects o))

index_set : (i : ℕ) (objects : List Object) (k : ℕ) (o : Object) → set (index_from i objects) k (entries_from (i + k) 0 o.symbols) ≡ index_from i (set objects k o)
index_set i [] k o = refl
index_set i (x ∷ objects) zero o = let e : i + 0 ≡ i = omega arith in rw e refl
index_set i (x ∷ objects) (suc k) o =
    let e : i + 1 + k ≡ i + suc k = omega arith in
    ap (λ (es : List (List Entry)). entries_from i 0 x.symbols ∷ es) (rw e at (index_set (i + 1) objects k o))

set_last : {X : Type 0} (xs : List X) (d x : X) → set (xs ++ d ∷ []) (length xs) x ≡ xs ++ x ∷ []
set_last [] d x = refl
set_last (y ∷ xs) d x = ap (λ (zs : List _). y ∷ zs) (set_last xs d x)

pub pushed_last : (objects : List Object) (o : Object) → with_object (index_of objects) (length objects) o ≡ index_of (objects ++ o ∷ [])
pushed_last objects o =
    let many : length (index_of objects) ≡ length objects = as_many 0 objects in
    let one : length objects + 1 - length (index_of objects) ≡ 1 = omega (arith, many) in
    let e : 0 + length objects ≡ length objects = omega arith in
    let put : set (index_of objects ++ [] ∷ []) (length (index_of objects)) (entries_from (length objects) 0 o.symbols) ≡ index_of objects ++ entries_from (length objects) 0 o.symbols ∷ [] = set_last (index_of objects) [] (entries_from (length objects) 0 o.symbols) in
    rw one ((rw many at put) ∙ sym (rw e at (index_append 0 objects o)))

pub replaced_at : (objects : List Object) (k : ℕ) (o : Object) → k < length objects → with_object (index_of objects) k o ≡ index_of (set objects k o)
replaced_at objects k o lt =
    let many : length (index_of objects) ≡ length objects = as_many 0 objects in
    let none : k + 1 - length (index_of objects) ≡ 0 = omega (arith, many, lt) in
    let e : 0 + k ≡ k = omega arith in
    rw (none, append-nil (index_of objects)) (rw e at (index_set 0 objects k o))

-- what holds of an index after a call follows the objects, whatever they are
pub push_follows : (old new : List (List Entry)) (object : ℕ) (o : Object) → new ≡ with_object old object o → (objects : List Object) → old ≡ index_of objects → object ≡ length objects → new ≡ index_of (objects ++ o ∷ [])
push_follows old new object o put objects was last = put ∙ rw (was, last) (pushed_last objects o)

pub replace_follows : (old new : List (List Entry)) (object : ℕ) (o : Object) → new ≡ with_object old object o → (objects : List Object) → old ≡ index_of objects → object < length objects → new ≡ index_of (set objects object o)
replace_follows old new object o put objects was lt = put ∙ rw was (replaced_at objects object o lt)

-- ---- room for an object

pub padded_more : (index new : List (List Entry)) (n : ℕ) → length index ≤ n → new ≡ padded n index → new ++ [] ∷ [] ≡ padded (n + 1) index
padded_more index new n le is =
    let one : n + 1 - length index ≡ n - length index + 1 = omega (arith, le) in
    ap (λ (xs : List (List Entry)). xs ++ [] ∷ []) is
    ∙ (append_assoc index (replicate (n - length index) []) ([] ∷ [])
    ∙ rw one (ap (λ (xs : List (List Entry)). index ++ xs) (replicate_more (n - length index) [])))

-- the same where a call may be refused
pub on_ok : {T E : Type 0} (r : Result T E) (P Q : Type 0) → (P → Q) → OnOk r P → OnOk r Q
on_ok (Ok v) P Q f p = f p
on_ok (Err e) P Q f p = tt
