-- Where the parts of a space begin, and the entries of a part.
use Rattle.std.proofs.Common.{◌≡◌, ◌∙◌, ℕ, zero, suc, ◌+◌, ◌<◌, Bool, true, false, List, [], ◌∷◌, ◌++◌, map, length, Option, Some, None, refl, sym, ap, arith, subst, inl, inr, slice_get, unwrap_or, if◌then◌else◌, nat_lt, MatchOption}
use Rattle.std.specs.List.{range_with_len}
use Rattle.std.proofs.lemmas.Bool.{cases_Bool, ltb-true, lt-ltb}
use Rattle.std.proofs.lemmas.List.FromFn.{length-map-range_with_len}
use Rattle.std.proofs.lemmas.Option.{slice_get_within}
use Rattle.wl_bind.specs.Parts.{joined, lengths_of, starts_from, total, AreStarts, start_of, single_of, HasEntry}
use Rattle.wl_bind.specs.steps.Parts.{entry_of}
use Rattle.wl_bind.specs.declared.parts.PartStarts.{PartStarts}
use Rattle.wl_lists.proofs.Places.{there_is, range_at}
use Rattle.wl_bind.proofs.PlaceLaws.{StandsFrom, part_stands}

-- ---- starts by lengths

-- where the part of that number begins, where the first begins there; after the last part, its end
abbrev start_at : ℕ → List ℕ → ℕ → ℕ
start_at n lengths k = unwrap_or (slice_get (starts_from n lengths) k) (n + total lengths)

first_start : (n : ℕ) (lengths : List ℕ) → start_at n lengths 0 ≡ n
first_start n [] = omega arith
first_start n (len ∷ lengths) = refl

start_behind : (n len : ℕ) (lengths : List ℕ) (k : ℕ)
    → start_at n (len ∷ lengths) (suc k) ≡ start_at (n + len) lengths k
start_behind n len lengths k =
    let sums : n + (len + total lengths) ≡ (n + len) + total lengths = omega arith in
    ap (λ (e : ℕ). unwrap_or (slice_get (starts_from (n + len) lengths) k) e) sums

next_start : (n : ℕ) (lengths : List ℕ) (k len : ℕ) → slice_get lengths k ≡ Some len
    → start_at n lengths (suc k) ≡ start_at n lengths k + len
next_start n [] k len e = absurd cc
next_start n (l ∷ lengths) zero len e =
    let same : l ≡ len = cc in
    start_behind n l lengths 0 ∙ (first_start (n + l) lengths ∙ ap (λ (m : ℕ). n + m) same)
next_start n (l ∷ lengths) (suc k) len e =
    start_behind n l lengths (suc k)
    ∙ (next_start (n + l) lengths k len e ∙ ap (λ (m : ℕ). m + len) (sym (start_behind n l lengths k)))

start_there : (n : ℕ) (lengths : List ℕ) (k len : ℕ) → slice_get lengths k ≡ Some len
    → slice_get (starts_from n lengths) k ≡ Some (start_at n lengths k)
start_there n [] k len e = absurd cc
start_there n (l ∷ lengths) zero len e = refl
start_there n (l ∷ lengths) (suc k) len e =
    start_there (n + l) lengths k len e ∙ ap (λ (m : ℕ). Some m) (sym (start_behind n l lengths k))

-- ---- parts by their starts

length_there : {X : Type 0} (parts : List (List X)) (k : ℕ) (part : List X) → slice_get parts k ≡ Some part
    → slice_get (lengths_of parts) k ≡ Some (length part)
length_there [] k part e = absurd cc
length_there {X} (xs ∷ parts) zero part e =
    let same : xs ≡ part = cc in ap (λ (ys : List X). Some (length ys)) same
length_there (xs ∷ parts) (suc k) part e = length_there parts k part e

start_is : {X : Type 0} (parts : List (List X)) (s : PartStarts) (k : ℕ) → AreStarts parts s
    → start_of s k ≡ start_at 0 (lengths_of parts) k
start_is parts s k are =
    let sum : total (lengths_of parts) ≡ 0 + total (lengths_of parts) = omega arith in
    ap (λ (xs : List ℕ). unwrap_or (slice_get xs k) s.end) are.starts
    ∙ ap (λ (e : ℕ). unwrap_or (slice_get (starts_from 0 (lengths_of parts)) k) e) (are.end ∙ sum)

-- a part ends where the next one begins
pub next_is : {X : Type 0} (parts : List (List X)) (s : PartStarts) (k : ℕ) (part : List X) → AreStarts parts s
    → slice_get parts k ≡ Some part → start_of s (k + 1) ≡ start_of s k + length part
next_is parts s k part are at =
    let one : k + 1 ≡ suc k = omega arith in
    ap (start_of s) one
    ∙ (start_is parts s (suc k) are
    ∙ (next_start 0 (lengths_of parts) k (length part) (length_there parts k part at)
    ∙ ap (λ (m : ℕ). m + length part) (sym (start_is parts s k are))))

-- a part stands where it begins
pub part_is : {X : Type 0} (parts : List (List X)) (rest : List X) (s : PartStarts) (k : ℕ) (part : List X)
    → AreStarts parts s → slice_get parts k ≡ Some part → StandsFrom (joined parts ++ rest) (start_of s k) part
part_is parts rest s k part are at =
    part_stands parts rest k part (start_of s k) at
    (start_there 0 (lengths_of parts) k (length part) (length_there parts k part at)
    ∙ ap (λ (m : ℕ). Some m) (sym (start_is parts s k are)))

-- ---- the one entry of a part

one_part : {X : Type 0} (space : List X) (n : ℕ) (test : Bool) (x : X)
    → StandsFrom space n (if test then x ∷ [] else [])
    → MatchOption (if nat_lt n (n + length (if test then x ∷ [] else [])) then Some n else None)
    (test ≡ false) (λ place. slice_get space place ≡ Some x)
one_part space n true x stands =
    let lt : n < n + 1 = omega arith in
    let here : n + 0 ≡ n = omega arith in
    rw (lt-ltb n (n + 1) lt) (ap (slice_get space) (sym here) ∙ stands.is 0 x refl)
one_part space n false x stands =
    let le : (n < n + 0) → ⊥ = λ lt. omega (arith, lt) in
    elim (cases_Bool (nat_lt n (n + 0))) [
      | inl t ↦ absurd (le (ltb-true n (n + 0) t))
      | inr f ↦ rw f refl
    ]

-- where a part has one entry or none, its index is given exactly where it has one
pub single_is : {X : Type 0} (parts : List (List X)) (rest : List X) (s : PartStarts) (k : ℕ) (test : Bool) (x : X)
    → AreStarts parts s → slice_get parts k ≡ Some (if test then x ∷ [] else [])
    → MatchOption (single_of s k) (test ≡ false) (λ place. slice_get (joined parts ++ rest) place ≡ Some x)
single_is {X} parts rest s k test x are at =
    let P : ℕ → Type 0 = λ m. MatchOption (if nat_lt (start_of s k) m then Some (start_of s k) else None)
    (test ≡ false) (λ place. slice_get (joined parts ++ rest) place ≡ Some x) in
    subst P (sym (next_is parts s k (if test then x ∷ [] else []) are at))
    (one_part (joined parts ++ rest) (start_of s k) test x
    (part_is parts rest s k (if test then x ∷ [] else []) are at))

-- ---- an entry of a part

-- so many past the start of a part stands its entry
pub entry_is : {X : Type 0} (parts : List (List X)) (rest : List X) (s : PartStarts) (k : ℕ) (part : List X) (place : ℕ)
    → AreStarts parts s → slice_get parts k ≡ Some part → HasEntry s k place
    → slice_get (joined parts ++ rest) (start_of s k + place) ≡ slice_get part place
entry_is parts rest s k part place are at has =
    let next = next_is parts s k part are at in
    let lt : place < length part = omega (arith, next, has) in
    let there = there_is part place lt in
    (part_is parts rest s k part are at).is place there.0 there.1 ∙ sym there.1

-- an entry that a part has stands in the space
pub entry_found : {X : Type 0} (parts : List (List X)) (rest : List X) (s : PartStarts) (k : ℕ) (part : List X) (place : ℕ) (x : X)
    (index : Option ℕ) (absent : Type 0)
    → index ≡ entry_of s k place → AreStarts parts s → slice_get parts k ≡ Some part → slice_get part place ≡ Some x
    → MatchOption index absent (λ i. slice_get (joined parts ++ rest) i ≡ Some x)
entry_found parts rest s k part place x index absent is are at there =
    let next = next_is parts s k part are at in
    let inside : place < length part = slice_get_within part place x there in
    let lt : start_of s k + place < start_of s (k + 1) = omega (arith, next, inside) in
    let found : index ≡ Some (start_of s k + place) =
    is ∙ ap (λ (b : Bool). if b then Some (start_of s k + place) else None) (lt-ltb (start_of s k + place) (start_of s (k + 1)) lt) in
    let P : Option ℕ → Type 0 = λ o. MatchOption o absent (λ i. slice_get (joined parts ++ rest) i ≡ Some x) in
    subst P (sym found) ((part_is parts rest s k part are at).is place x there)

-- ---- numbers as entries

-- an entry of a part of numbered entries
pub numbers_stand : {X : Type 0} (parts : List (List X)) (rest : List X) (s : PartStarts) (k : ℕ) (f : ℕ → X) (n place : ℕ)
    → AreStarts parts s → slice_get parts k ≡ Some (map f (range_with_len 0 n)) → HasEntry s k place
    → slice_get (joined parts ++ rest) (start_of s k + place) ≡ Some (f place)
numbers_stand parts rest s k f n place are at has =
    let next = next_is parts s k (map f (range_with_len 0 n)) are at in
    let len = length-map-range_with_len f 0 n in
    let lt : place < n = omega (arith, next, has, len) in
    let here : 0 + place ≡ place = omega arith in
    entry_is parts rest s k (map f (range_with_len 0 n)) place are at has
    ∙ (range_at f 0 n place lt ∙ ap (λ (m : ℕ). Some (f m)) here)

-- what holds of a thing and its index holds of what is the same
pub made_at : {M : Type 0} (Is : M → Option ℕ → Type 0) {m n : M} {index found : Option ℕ} → m ≡ n → index ≡ found
    → Is n found → Is m index
made_at {M} Is {m} {n} {index} {found} same told is =
    let P : M → Type 0 = λ x. Is x index in
    let Q : Option ℕ → Type 0 = λ o. Is n o in
    subst P (sym same) (subst Q (sym told) is)
