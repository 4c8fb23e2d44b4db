-- Rows that stand one behind the other in one list.
use Rattle.std.specs.Prelude.{◌+◌, ◌≤◌, List, length, map, take, drop}
use Rattle.std.specs.List.{AllByRecursion}
use Rattle.wl_rows.specs.declared.rows.Stretch.{Stretch}

-- the items of a stretch
abbrev pub row_at : {T : Type 0} → List T → Stretch → List T
row_at items stretch = take stretch.len (drop stretch.start items)

-- the rows that stand there
abbrev pub rows_of : {T : Type 0} → List T → List Stretch → List (List T)
rows_of items stretches = map (row_at items) stretches

-- each ends among the items
abbrev pub AreWithin : {T : Type 0} → List T → List Stretch → Type 0
AreWithin items stretches = AllByRecursion (λ (s : Stretch). s.start + s.len ≤ length items) stretches
