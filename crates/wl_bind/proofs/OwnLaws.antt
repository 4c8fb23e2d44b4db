-- What objects define stands in a space at the first index of its object and its ordinal.
use Rattle.std.proofs.Common.{◌≡◌, ◌∙◌, ℕ, zero, suc, ◌+◌, ◌-◌, ◌<◌, ◌≤◌, Bool, true, false, List, [], ◌∷◌, ◌++◌, map, filter, length, Some, refl, sym, ap, subst, arith, slice_get, slice_index_or, if◌then◌else◌, length-append, append_assoc, inl, inr}
use Rattle.std.specs.List.{range_with_len}
use Rattle.std.proofs.lemmas.Bool.{cases_Bool, ltb-true, and_parts}
use Rattle.std.proofs.lemmas.List.{length-map}
use Rattle.std.proofs.lemmas.List.Elements.{filter-append}
use Rattle.std.proofs.lemmas.Option.{cond_some}
use Rattle.wl_linking.specs.Object.{Object}
use Rattle.wl_symbols.specs.Live.{Live, is_live, live_below, ordinal_of, IsLiveOf}
use Rattle.wl_symbols.specs.Units.{counts_of, units_at, has_unit, exists, unit_number, unit_index}
use Rattle.wl_symbols.specs.declared.units.LinkUnit.{LinkUnit}
use Rattle.wl_symbols.specs.declared.units.UnitCounts.{UnitCounts}
use Rattle.wl_symbols.specs.Input.{Input, keeps}
use Rattle.wl_bind.specs.steps.OwnIndices.{own_unit, own_count, kept_own, kept_count, firsts_from}
use Rattle.wl_bind.specs.Parts.{by_object}
use Rattle.wl_bind.specs.declared.own_indices.Own.{Own}
use Rattle.wl_bind.specs.declared.own_indices.Own.TheVariants.{Functions, Globals}
use Rattle.wl_lists.proofs.Places.{get_in_front, mapped_at, get_behind}
use Rattle.wl_bind.proofs.ClosedLaws.{counts_at}

-- ---- numbers that pass a test

-- the numbers from one on, divided at a place
range_split : (a n m : ℕ) → range_with_len a (n + m) ≡ range_with_len a n ++ range_with_len (a + n) m
range_split a zero m =
    let behind : a + 0 ≡ a = omega arith in
    let all : 0 + m ≡ m = omega arith in
    ap (range_with_len a) all ∙ ap (λ (k : ℕ). range_with_len k m) (sym behind)
range_split a (suc n) m =
    let behind : (a + 1) + n ≡ a + suc n = omega arith in
    let all : suc n + m ≡ suc (n + m) = omega arith in
    ap (range_with_len a) all
    ∙ ap (λ (xs : List ℕ). a ∷ xs)
    (range_split (a + 1) n m
    ∙ ap (λ (k : ℕ). range_with_len (a + 1) n ++ range_with_len k m) behind)

-- one number more
range_more : (n : ℕ) → range_with_len 0 (suc n) ≡ range_with_len 0 n ++ n ∷ []
range_more n =
    let one : suc n ≡ n + 1 = omega arith in
    let here : 0 + n ≡ n = omega arith in
    ap (range_with_len 0) one
    ∙ (range_split 0 n 1 ∙ ap (λ (k : ℕ). range_with_len 0 n ++ k ∷ []) here)

-- how many numbers below that one pass
abbrev pub passing : (ℕ → Bool) → ℕ → ℕ
passing p zero = 0
passing p (suc n) = passing p n + (if p n then 1 else 0)

-- one more
pub passing_more : (p : ℕ → Bool) (n kept next : ℕ) (b : Bool) → p n ≡ b → kept ≡ passing p n
    → next ≡ kept + (if b then 1 else 0) → next ≡ passing p (n + 1)
passing_more p n kept next b is so_far more =
    let one : suc n ≡ n + 1 = omega arith in
    more ∙ (ap (λ (k : ℕ). k + (if b then 1 else 0)) so_far
    ∙ (ap (λ (c : Bool). passing p n + (if c then 1 else 0)) (sym is) ∙ ap (passing p) one))

one_length : (p : ℕ → Bool) (n : ℕ) → length (filter p (n ∷ [])) ≡ (if p n then 1 else 0)
one_length p n = elim (cases_Bool (p n)) [ inl t ↦ rw t refl | inr f ↦ rw f refl ]

passing_length : (p : ℕ → Bool) (n : ℕ) → length (filter p (range_with_len 0 n)) ≡ passing p n
passing_length p zero = refl
passing_length p (suc n) =
    ap (λ (xs : List ℕ). length (filter p xs)) (range_more n)
    ∙ (ap length (filter-append p (range_with_len 0 n) (n ∷ []))
    ∙ (length-append (filter p (range_with_len 0 n)) (filter p (n ∷ []))
    ∙ (ap (λ (k : ℕ). k + length (filter p (n ∷ []))) (passing_length p n)
    ∙ ap (λ (k : ℕ). passing p n + k) (one_length p n))))

first_passing : (p : ℕ → Bool) (n : ℕ) (xs : List ℕ) → p n ≡ true → slice_get (filter p (n ∷ xs)) 0 ≡ Some n
first_passing p n xs t = rw t refl

-- those of all numbers that pass
pub passing_all : (p : ℕ → Bool) (kept n count : ℕ) → kept ≡ passing p n → n ≤ count → count ≤ n
    → kept ≡ length (filter p (range_with_len 0 count))
passing_all p kept n count is le ge =
    let same : n ≡ count = omega (arith, le, ge) in
    is ∙ (ap (passing p) same ∙ sym (passing_length p count))

-- a number that passes follows those below it
passing_stands : (p : ℕ → Bool) (count n : ℕ) → n < count → p n ≡ true
    → slice_get (filter p (range_with_len 0 count)) (passing p n) ≡ Some n
passing_stands p count n lt t =
    let m = count - (n + 1) in
    let e : count ≡ n + suc m = omega (arith, lt) in
    let here : 0 + n ≡ n = omega arith in
    let split : range_with_len 0 count ≡ range_with_len 0 n ++ n ∷ range_with_len (n + 1) m =
    ap (λ (k : ℕ). range_with_len 0 k) e
    ∙ (range_split 0 n (suc m) ∙ ap (λ (k : ℕ). range_with_len 0 n ++ range_with_len k (suc m)) here) in
    ap (λ (xs : List ℕ). slice_get (filter p xs) (passing p n)) split
    ∙ (ap (λ (xs : List ℕ). slice_get xs (passing p n)) (filter-append p (range_with_len 0 n) (n ∷ range_with_len (n + 1) m))
    ∙ (get_behind (filter p (range_with_len 0 n)) (filter p (n ∷ range_with_len (n + 1) m)) 0 (passing p n)
    (let l : length (filter p (range_with_len 0 n)) ≡ passing p n = passing_length p n in omega (arith, l))
    ∙ first_passing p n (range_with_len (n + 1) m) t))

-- ---- live units

-- as many live units stand below one as numbers that are kept
below_own : (input : Input) (own : Own) (object number n : ℕ)
    → live_below input.live (record { object = object; unit = own_unit own number }) n
    ≡ passing (λ k. keeps input object (own_unit own k)) n
below_own input own object number zero = refl
below_own input Functions object number (suc n) =
    ap (λ (k : ℕ). k + (if keeps input object (own_unit Functions n) then 1 else 0)) (below_own input Functions object number n)
below_own input Globals object number (suc n) =
    ap (λ (k : ℕ). k + (if keeps input object (own_unit Globals n) then 1 else 0)) (below_own input Globals object number n)

pub live_exists : (live : Live) (u : LinkUnit) → is_live live u ≡ true → exists live.units u ≡ true
live_exists live u e =
    (and_parts (exists live.units u) (slice_index_or live.marks (unit_number live.units u) false) e).0

own_index_is : (own : Own) (number : ℕ) → unit_index (own_unit own number) ≡ number
own_index_is Functions number = refl
own_index_is Globals number = refl

-- an object that has the unit has so many
own_within : (own : Own) (o : Object) (number : ℕ) → has_unit (counts_of o) (own_unit own number) ≡ true
    → number < own_count own o
own_within Functions o number e = ltb-true number (length o.functions) e
own_within Globals o number e = ltb-true number (length o.globals) e

-- ---- objects

-- the first index of an object, and what it gives
own_stands_from : {Y : Type 0} (input : Input) (own : Own) (entry : ℕ → ℕ → Y) (front : List Y)
    (i : ℕ) (objects : List Object) (k first n number : ℕ) (o : Object)
    → slice_get objects k ≡ Some o
    → slice_get (firsts_from input own (length front) i objects) k ≡ Some first
    → slice_get (kept_own input own (i + k) o) n ≡ Some number
    → slice_get (front ++ by_object (λ j x. map (entry j) (kept_own input own j x)) i objects) (first + n)
    ≡ Some (entry (i + k) number)
own_stands_from input own entry front i [] k first n number o at first_is kept = absurd cc
own_stands_from {Y} input own entry front i (x ∷ objects) zero first n number o at first_is kept =
    let is : length front ≡ first = cc in
    let same : x ≡ o = cc in
    let here : i + 0 ≡ i = omega arith in
    let there : slice_get (kept_own input own i x) n ≡ Some number = rw (same, ← here) kept in
    rw here
    (get_behind front (by_object (λ j x. map (entry j) (kept_own input own j x)) i (x ∷ objects)) n (first + n) (ap (λ (m : ℕ). m + n) is)
    ∙ get_in_front (map (entry i) (kept_own input own i x)) (by_object (λ j x. map (entry j) (kept_own input own j x)) (i + 1) objects) n (entry i number)
    (mapped_at (entry i) (kept_own input own i x) n number there))
own_stands_from {Y} input own entry front i (x ∷ objects) (suc k) first n number o at first_is kept =
    let mine = map (entry i) (kept_own input own i x) in
    let len : length (front ++ mine) ≡ length front + length (kept_own input own i x) =
    length-append front mine ∙ ap (λ (m : ℕ). length front + m) (length-map (kept_own input own i x) (entry i)) in
    let here : i + suc k ≡ (i + 1) + k = omega arith in
    let more = own_stands_from input own entry (front ++ mine) (i + 1) objects k first n number o at
    (ap (λ (m : ℕ). slice_get (firsts_from input own m (i + 1) objects) k) len ∙ first_is)
    (ap (λ (m : ℕ). slice_get (kept_own input own m o) n) (sym here) ∙ kept) in
    ap (λ (xs : List Y). slice_get xs (first + n)) (sym (append_assoc front mine (by_object (λ j x. map (entry j) (kept_own input own j x)) (i + 1) objects)))
    ∙ (more ∙ ap (λ (m : ℕ). Some (entry m number)) (sym here))

-- there is an object where there is a first index
object_there : (input : Input) (own : Own) (index i : ℕ) (objects : List Object) (k first : ℕ)
    → slice_get (firsts_from input own index i objects) k ≡ Some first → (o : Object) × (slice_get objects k ≡ Some o)
object_there input own index i [] k first e = absurd cc
object_there input own index i (o ∷ objects) zero first e = (o, refl)
object_there input own index i (o ∷ objects) (suc k) first e =
    object_there input own (index + length (kept_own input own i o)) (i + 1) objects k first e

-- a kept one stands among the kept numbers at its ordinal
own_kept : (input : Input) (own : Own) (object number n : ℕ) (o : Object)
    → slice_get input.link.objects object ≡ Some o
    → ordinal_of input.live (record { object = object; unit = own_unit own number }) ≡ Some n
    → IsLiveOf input.link input.live → slice_get (kept_own input own object o) n ≡ Some number
own_kept input own object number n o at ordinal live =
    let u : LinkUnit = record { object = object; unit = own_unit own number } in
    let parts = cond_some (is_live input.live u) (live_below input.live u (unit_index u.unit)) n
    ordinal in
    let units : units_at input.live.units object ≡ counts_of o =
    ap (λ (us : List UnitCounts). units_at us object) live.units
    ∙ counts_at input.link.objects object o at in
    let has : has_unit (counts_of o) (own_unit own number) ≡ true =
    ap (λ (c : UnitCounts). has_unit c (own_unit own number)) (sym units)
    ∙ live_exists input.live u parts.0 in
    let below : passing (λ k. keeps input object (own_unit own k)) number ≡ n =
    sym (below_own input own object number number)
    ∙ (ap (λ (k : ℕ). live_below input.live (record { object = object; unit = own_unit own number }) k)
    (sym (own_index_is own number)) ∙ parts.1) in
    ap (λ (k : ℕ). slice_get (kept_own input own object o) k) (sym below)
    ∙ passing_stands (λ k. keeps input object (own_unit own k)) (own_count own o) number (own_within own o number has) parts.0

-- the index of what is kept is its object's first index plus its ordinal
pub own_stands : {Y : Type 0} (input : Input) (own : Own) (entry : ℕ → ℕ → Y) (front : List Y)
    (object number n first : ℕ)
    → ordinal_of input.live (record { object = object; unit = own_unit own number }) ≡ Some n
    → slice_get (firsts_from input own (length front) 0 input.link.objects) object ≡ Some first
    → IsLiveOf input.link input.live
    → slice_get (front ++ by_object (λ i o. map (entry i) (kept_own input own i o)) 0 input.link.objects) (first + n)
    ≡ Some (entry object number)
own_stands input own entry front object number n first ordinal first_is live =
    let there = object_there input own (length front) 0 input.link.objects object first first_is in
    let here : 0 + object ≡ object = omega arith in
    own_stands_from input own entry front 0 input.link.objects object first n number there.0 there.1 first_is
    (ap (λ (k : ℕ). slice_get (kept_own input own k there.0) n) here ∙ own_kept input own object number n there.0 there.1 ordinal live)
    ∙ ap (λ (k : ℕ). Some (entry k number)) here

-- each object has a first index
pub firsts_length : (input : Input) (own : Own) (index object : ℕ) (objects : List Object)
    → length (firsts_from input own index object objects) ≡ length objects
firsts_length input own index object [] = refl
firsts_length input own index object (o ∷ objects) =
    ap suc (firsts_length input own (index + length (kept_own input own object o)) (object + 1) objects)

-- ---- the first indices, object by object

-- the first index of one more object
pub firsts_more : (input : Input) (own : Own) (k next after : ℕ) (o : Object) (left tail : List Object)
    (firsts new all : List ℕ) → left ≡ o ∷ tail → new ≡ firsts ++ next ∷ []
    → after ≡ next + length (kept_own input own k o) → firsts ++ firsts_from input own next k left ≡ all
    → new ++ firsts_from input own after (k + 1) tail ≡ all
firsts_more input own k next after o left tail firsts new all split pushed later so_far =
    rw (pushed, later)
    (append_assoc firsts (next ∷ []) (firsts_from input own (next + length (kept_own input own k o)) (k + 1) tail)
    ∙ (ap (λ (os : List Object). firsts ++ firsts_from input own next k os) (sym split) ∙ so_far))

-- and what it has that is kept
pub kept_more : (input : Input) (own : Own) (k next after all : ℕ) (o : Object) (left tail : List Object)
    → left ≡ o ∷ tail → after ≡ next + length (kept_own input own k o)
    → next + kept_count input own k left ≡ all → after + kept_count input own (k + 1) tail ≡ all
kept_more input own k next after all o left tail split later so_far =
    let both : next + (length (kept_own input own k o) + kept_count input own (k + 1) tail) ≡ all =
    subst (λ (os : List Object). next + kept_count input own k os ≡ all) split so_far in
    omega (arith, later, both)
