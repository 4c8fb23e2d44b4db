-- Copies of segments, object by object.
use Rattle.std.proofs.Common.{◌≡◌, ◌∙◌, ◌<◌, ℕ, suc, ◌+◌, Bool, List, [], ◌∷◌, ◌++◌, length, drop, get_or, sym, ap, arith, append_assoc, length-append, if◌then◌else◌}
use Rattle.wl_data.specs.DataPlaces.{in_one_row}
use Rattle.wl_data.specs.Segments.{SegmentLayout}
use Rattle.wl_synth.specs.declared.parts.PassiveSegmentCopy.{PassiveSegmentCopy}
use Rattle.wl_places.specs.Copies.{copies_from, copy_of}
use Rattle.wl_places.proofs.KeptDataLaws.{split_at}

copies_append : (test : SegmentLayout → Bool) (n : ℕ) (xs ys : List SegmentLayout)
    → copies_from test n (xs ++ ys) ≡ copies_from test n xs ++ copies_from test (n + length xs) ys
copies_append test n [] ys =
    let same : n ≡ n + 0 = omega arith in ap (λ (m : ℕ). copies_from test m ys) same
copies_append test n (x ∷ xs) ys =
    let head : List PassiveSegmentCopy = if test x then copy_of n x ∷ [] else [] in
    let same : (n + 1) + length xs ≡ n + suc (length xs) = omega arith in
    ap (λ (cs : List PassiveSegmentCopy). head ++ cs)
    (copies_append test (n + 1) xs ys
    ∙ ap (λ (m : ℕ). copies_from test (n + 1) xs ++ copies_from test m ys) same)
    ∙ sym (append_assoc head (copies_from test (n + 1) xs) (copies_from test (n + suc (length xs)) ys))

row_split : (rows : List (List SegmentLayout)) (k : ℕ) (row : List SegmentLayout) → k < length rows → row ≡ get_or rows k row
    → in_one_row (drop k rows) ≡ row ++ in_one_row (drop (k + 1) rows)
row_split rows k row within is = ap in_one_row (split_at rows k row within is)

-- the segments of one object more
pub rows_more : (test : SegmentLayout → Bool) (rows : List (List SegmentLayout)) (k n : ℕ) (row : List SegmentLayout)
    (before after all : List PassiveSegmentCopy) → k < length rows → row ≡ get_or rows k row
    → after ≡ before ++ copies_from test n row
    → before ++ copies_from test n (in_one_row (drop k rows)) ≡ all
    → after ++ copies_from test (n + length row) (in_one_row (drop (k + 1) rows)) ≡ all
rows_more test rows k n row before after all within is more so_far =
    let rest : List SegmentLayout = in_one_row (drop (k + 1) rows) in
    ap (λ (xs : List PassiveSegmentCopy). xs ++ copies_from test (n + length row) rest) more
    ∙ (append_assoc before (copies_from test n row) (copies_from test (n + length row) rest)
    ∙ (ap (λ (xs : List PassiveSegmentCopy). before ++ xs) (sym (copies_append test n row rest))
    ∙ (ap (λ (ls : List SegmentLayout). before ++ copies_from test n ls) (sym (row_split rows k row within is))
    ∙ so_far)))

-- how many there are after those that were seen
pub rows_count : (rows : List (List SegmentLayout)) (k n total : ℕ) (row : List SegmentLayout) → k < length rows
    → row ≡ get_or rows k row → n + length (in_one_row (drop k rows)) ≡ total
    → (n + length row) + length (in_one_row (drop (k + 1) rows)) ≡ total
rows_count rows k n total row within is so_far =
    let whole = ap length (row_split rows k row within is) in
    omega (arith, whole, length-append row (in_one_row (drop (k + 1) rows)), so_far)
