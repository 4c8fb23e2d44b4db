use Rattle.std.proofs.Common.{◌≡◌, ◌+◌, ◌++◌, drop}
use Rattle.wl_places.specs.Copies.{copies_from, is_copied}
use Rattle.wl_places.proofs.copies.push_copies.Given as goal

abbrev pub invariant-loop-layout : goal.invariant-loop-layout
invariant-loop-layout l = record {
  number : l.number ≡ l.first + l.layout-index;
  so_far : l.copies.items ++ copies_from (is_copied l.copied) l.number (drop l.layout-index l.layouts)
      ≡ l.initial.copies.items ++ copies_from (is_copied l.copied) l.first l.layouts;
}
