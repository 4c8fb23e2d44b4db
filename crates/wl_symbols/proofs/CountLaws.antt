-- How many entries there are.
use Rattle.std.proofs.Common.{◌≡◌, ◌≤◌, ◌<◌, ℕ, ◌+◌, false, true, List, [], ◌∷◌, length, take, get_or, refl, ap, ◌∙◌, inl, inr, arith}
use Rattle.std.proofs.lemmas.Bool.{cases_Bool}
use Rattle.std.proofs.lemmas.List.{length-append}
use Rattle.std.proofs.lemmas.List.Sums.{sum_by-cons}
use Rattle.wl_custom.specs.Symbols.{Symbol as LinkedSymbol}
use Rattle.wl_linking.specs.Object.{Object}
use Rattle.wl_symbols.specs.Entries.{is_private, entries_at, entries_from, entries_of, symbol_count}
use Rattle.wl_symbols.proofs.AdditionLaws.{symbols_more, objects_more}

pub no_entry : (object k : ℕ) (s : LinkedSymbol) → is_private s ≡ true
    → length (entries_at object k s) ≡ 0
no_entry object k s p = rw p refl

pub one_entry : (object k : ℕ) (s : LinkedSymbol) → is_private s ≡ false
    → length (entries_at object k s) ≡ 1
one_entry object k s p = rw p refl

entry_few : (object k : ℕ) (s : LinkedSymbol) → length (entries_at object k s) ≤ 1
entry_few object k s = elim (cases_Bool (is_private s)) [
  | inl p ↦ (let none = no_entry object k s p in omega (arith, none))
  | inr p ↦ (let one = one_entry object k s p in omega (arith, one))
]

-- an object has no more entries than symbols
pub entries_few : (object k : ℕ) (symbols : List LinkedSymbol)
    → length (entries_from object k symbols) ≤ length symbols
entries_few object k [] = omega arith
entries_few object k (s ∷ symbols) =
    let all = length-append (entries_at object k s) (entries_from object (k + 1) symbols) in
    let one = entry_few object k s in
    let few = entries_few object (k + 1) symbols in
    omega (arith, all, one, few)

-- nor have objects
pub all_few : (i : ℕ) (objects : List Object) → length (entries_of i objects) ≤ symbol_count objects
all_few i [] = omega arith
all_few i (o ∷ objects) =
    let all : length (entries_of i (o ∷ objects)) ≡ length (entries_from i 0 o.symbols) + length (entries_of (i + 1) objects) = length-append (entries_from i 0 o.symbols) (entries_of (i + 1) objects) in
    let count : symbol_count (o ∷ objects) ≡ length o.symbols + symbol_count objects = sum_by-cons (λ (x : Object). length x.symbols) o objects in
    let here = entries_few i 0 o.symbols in
    let rest = all_few (i + 1) objects in
    omega (arith, all, count, here, rest)

pub symbols_counted : (object k : ℕ) (symbols : List LinkedSymbol) (s : LinkedSymbol)
    → k < length symbols → s ≡ get_or symbols k s
    → length (entries_from object 0 (take (k + 1) symbols))
    ≡ length (entries_from object 0 (take k symbols)) + length (entries_at object k s)
symbols_counted object k symbols s lt is =
    ap length (symbols_more object k symbols s lt is)
    ∙ length-append (entries_from object 0 (take k symbols)) (entries_at object k s)

pub objects_counted : (k : ℕ) (objects : List Object) (o : Object) → k < length objects
    → o ≡ get_or objects k o
    → length (entries_of 0 (take (k + 1) objects))
    ≡ length (entries_of 0 (take k objects)) + length (entries_from k 0 o.symbols)
objects_counted k objects o lt is =
    ap length (objects_more k objects o lt is)
    ∙ length-append (entries_of 0 (take k objects)) (entries_from k 0 o.symbols)
