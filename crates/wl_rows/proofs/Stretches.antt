-- What one row more leaves, and what stands in a row.
use Rattle.std.proofs.Common.{◌≡◌, ◌∙◌, ℕ, ◌+◌, ◌≤◌, List, [], ◌∷◌, ◌++◌, length, take, drop, refl, sym, ap, ap₂, arith, length-append, length-drop}
use Rattle.std.proofs.lemmas.List.{drop-append-le, drop_at, take-append-le, take_all}
use Rattle.wl_rows.specs.declared.rows.Stretch.{Stretch}
use Rattle.wl_rows.specs.Rows.{row_at, rows_of, AreWithin}

-- a row stays where items come behind it
row_stays : {T : Type 0} (items more : List T) (s : Stretch) → s.start + s.len ≤ length items
    → row_at (items ++ more) s ≡ row_at items s
row_stays items more s le =
    ap (take s.len) (drop-append-le s.start items more (omega arith))
    ∙ take-append-le s.len (drop s.start items) more (omega (arith, length-drop s.start items))

pub rows_stay : {T : Type 0} (items more : List T) (stretches : List Stretch)
    → AreWithin items stretches → rows_of (items ++ more) stretches ≡ rows_of items stretches
rows_stay items more [] all = refl
rows_stay items more (s ∷ stretches) all =
    ap₂ (λ r rs. r ∷ rs) (row_stays items more s all.0) (rows_stay items more stretches all.1)

pub within_stays : {T : Type 0} (items more : List T) (stretches : List Stretch)
    → AreWithin items stretches → AreWithin (items ++ more) stretches
within_stays items more [] all = tt
within_stays items more (s ∷ stretches) all =
    (omega (arith, all.0, length-append items more), within_stays items more stretches all.1)

-- ---- one row more, which stands behind all

pub rows_pushed : {T : Type 0} (items row : List T) (stretches : List Stretch) (start : ℕ)
    → AreWithin items stretches → start ≡ length items
    → rows_of (items ++ row) (stretches ++ (record { start = start; len = length row }) ∷ [])
    ≡ rows_of items stretches ++ row ∷ []
rows_pushed items row [] start all is =
    ap (λ r. r ∷ [])
    (ap (take (length row)) (drop_at items row start (sym is)) ∙ take_all (length row) row (omega arith))
rows_pushed items row (s ∷ stretches) start all is =
    ap₂ (λ r rs. r ∷ rs) (row_stays items row s all.0) (rows_pushed items row stretches start all.1 is)

pub within_pushed : {T : Type 0} (items row : List T) (stretches : List Stretch) (start : ℕ)
    → AreWithin items stretches → start ≡ length items
    → AreWithin (items ++ row) (stretches ++ (record { start = start; len = length row }) ∷ [])
within_pushed items row [] start all is = (omega (arith, length-append items row), tt)
within_pushed items row (s ∷ stretches) start all is =
    (omega (arith, all.0, length-append items row), within_pushed items row stretches start all.1 is)
