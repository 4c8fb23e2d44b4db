-- Rows of what symbols stand for.
use Rattle.std.proofs.Common.{◌≡◌, ◌<◌, ℕ, ◌+◌, zero, suc, List, [], ◌∷◌, ◌++◌, length, take, get_or, refl, sym, ap, ◌∙◌, Option, Some, None, slice_get, option_map, unwrap_or, arith}
use Rattle.std.specs.Option.{option_and_then, option_map_or}
use Rattle.std.proofs.lemmas.List.{take_more, length-take-le}
use Rattle.wl_custom.specs.Symbols.{Symbol as LinkedSymbol}
use Rattle.wl_linking.specs.Object.{Object}
use Rattle.wl_symbols.specs.Link.{Link}
use Rattle.wl_symbols.specs.Entries.{entries_of, firsts_of, symbol_in}
use Rattle.wl_symbols.specs.Names.{def_for, def}
use Rattle.wl_symbols.specs.Adding.{Holds}
use Rattle.wl_symbols.specs.Definitions.{row_from, rows_from, definitions_of, defined_by}
use Rattle.wl_symbols.specs.declared.entry.Firsts.{Firsts}
use Rattle.wl_symbols.specs.declared.entry.Definition.{Definition}
use Rattle.wl_symbols.specs.declared.entry.Definition.TheVariants.{Symbol}

-- ---- one more

row-append : (define : ℕ → LinkedSymbol → Definition) (i : ℕ) (xs : List LinkedSymbol)
    (x : LinkedSymbol)
    → row_from define i (xs ++ x ∷ []) ≡ row_from define i xs ++ define (i + length xs) x ∷ []
row-append define i [] x = let e : i + 0 ≡ i = omega arith in rw e refl
row-append define i (y ∷ xs) x =
    let e : i + 1 + length xs ≡ i + suc (length xs) = omega arith in
    ap (λ (row : List Definition). define i y ∷ row) (row-append define (i + 1) xs x ∙ rw e refl)

pub row_more : (define : ℕ → LinkedSymbol → Definition) (k : ℕ) (symbols : List LinkedSymbol)
    (s : LinkedSymbol) → k < length symbols → s ≡ get_or symbols k s
    → row_from define 0 (take (k + 1) symbols)
    ≡ row_from define 0 (take k symbols) ++ define k s ∷ []
row_more define k symbols s lt is =
    let len : length (take k symbols) ≡ k = length-take-le k symbols (omega arith) in
    let zero-len : 0 + length (take k symbols) ≡ k = omega (arith, len) in
    let more : take (k + 1) symbols ≡ take k symbols ++ s ∷ [] = take_more symbols k s lt
    ∙ ap (λ (x : LinkedSymbol). take k symbols ++ x ∷ []) (sym is) in
    ap (row_from define 0) more ∙ (row-append define 0 (take k symbols) s ∙ rw zero-len refl)

rows-append : (define : ℕ → ℕ → LinkedSymbol → Definition) (i : ℕ) (xs : List Object) (x : Object)
    → rows_from define i (xs ++ x ∷ [])
    ≡ rows_from define i xs ++ row_from (define (i + length xs)) 0 x.symbols ∷ []
rows-append define i [] x = let e : i + 0 ≡ i = omega arith in rw e refl
rows-append define i (y ∷ xs) x =
    let e : i + 1 + length xs ≡ i + suc (length xs) = omega arith in
    ap (λ (rows : List (List Definition)). row_from (define i) 0 y.symbols ∷ rows)
    (rows-append define (i + 1) xs x ∙ rw e refl)

pub rows_more : (define : ℕ → ℕ → LinkedSymbol → Definition) (k : ℕ) (objects : List Object)
    (o : Object) → k < length objects → o ≡ get_or objects k o
    → rows_from define 0 (take (k + 1) objects)
    ≡ rows_from define 0 (take k objects) ++ row_from (define k) 0 o.symbols ∷ []
rows_more define k objects o lt is =
    let len : length (take k objects) ≡ k = length-take-le k objects (omega arith) in
    let zero-len : 0 + length (take k objects) ≡ k = omega (arith, len) in
    let more : take (k + 1) objects ≡ take k objects ++ o ∷ [] = take_more objects k o lt
    ∙ ap (λ (x : Object). take k objects ++ x ∷ []) (sym is) in
    ap (rows_from define 0) more ∙ (rows-append define 0 (take k objects) o ∙ rw zero-len refl)

-- ---- the rows of what is linked

-- what is found for each name is what the entries have
pub rows_by : (link : Link) (found : List ℕ → Firsts) → Holds found (entries_of 0 link.objects)
    → rows_from (defined_by found link.args) 0 link.objects ≡ definitions_of link
rows_by link found holds =
    let same : found ≡ (λ (name : List ℕ). firsts_of name (entries_of 0 link.objects)) = (λ i.
    λ name. holds name i) in
    ap (λ (f : List ℕ → Firsts). rows_from (defined_by f link.args) 0 link.objects) same

-- ---- what stands at a place

row_at : (define : ℕ → LinkedSymbol → Definition) (i j : ℕ) (symbols : List LinkedSymbol)
    → slice_get (row_from define i symbols) j ≡ option_map (define (i + j)) (slice_get symbols j)
row_at define i j [] = refl
row_at define i zero (s ∷ symbols) = let e : i + 0 ≡ i = omega arith in rw e refl
row_at define i (suc j) (s ∷ symbols) =
    let e : i + 1 + j ≡ i + suc j = omega arith in row_at define (i + 1) j symbols ∙ rw e refl

rows_at : (define : ℕ → ℕ → LinkedSymbol → Definition) (i j : ℕ) (objects : List Object)
    → slice_get (rows_from define i objects) j
    ≡ option_map (λ (o : Object). row_from (define (i + j)) 0 o.symbols) (slice_get objects j)
rows_at define i j [] = refl
rows_at define i zero (o ∷ objects) = let e : i + 0 ≡ i = omega arith in rw e refl
rows_at define i (suc j) (o ∷ objects) =
    let e : i + 1 + j ≡ i + suc j = omega arith in rows_at define (i + 1) j objects ∙ rw e refl

in_row : (define : ℕ → LinkedSymbol → Definition) (symbol : ℕ) (o : Option Object)
    → option_and_then (λ (row : List Definition). slice_get row symbol)
    (option_map (λ (o : Object). row_from define 0 o.symbols) o)
    ≡ option_map (define symbol) (option_and_then (λ (o : Object). slice_get o.symbols symbol) o)
in_row define symbol None = refl
in_row define symbol (Some o) =
    let e : 0 + symbol ≡ symbol = omega arith in row_at define 0 symbol o.symbols ∙ rw e refl

or_itself : (define : LinkedSymbol → Definition) (itself : Definition) (s : Option LinkedSymbol)
    → unwrap_or (option_map define s) itself ≡ option_map_or define s itself
or_itself define itself None = refl
or_itself define itself (Some s) = refl

-- the rows have what each symbol stands for; where there is none, it stands for itself
pub def_in : (link : Link) (rows : List (List Definition)) (object symbol : ℕ)
    → rows ≡ definitions_of link
    → unwrap_or (option_and_then (λ (row : List Definition). slice_get row symbol)
    (slice_get rows object)) (Symbol object symbol) ≡ def link object symbol
def_in link rows object symbol are =
    let zero-object : 0 + object ≡ object = omega arith in
    let at : slice_get rows object
    ≡ option_map (λ (o : Object). row_from (def_for link object) 0 o.symbols)
    (slice_get link.objects object) = rw are (rows_at (def_for link) 0 object link.objects
    ∙ rw zero-object refl) in
    rw (at, in_row (def_for link object) symbol (slice_get link.objects object))
    (or_itself (def_for link object symbol) (Symbol object symbol)
    (symbol_in link.objects object symbol))
