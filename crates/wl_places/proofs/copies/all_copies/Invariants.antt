use Rattle.std.proofs.Common.{◌≡◌, ◌+◌, ◌++◌, drop, length}
use Rattle.wl_data.specs.DataPlaces.{in_one_row}
use Rattle.wl_places.specs.Copies.{copies_from, is_copied}
use Rattle.wl_places.proofs.copies.all_copies.Given as goal

abbrev pub invariant-loop-object : goal.invariant-loop-object
invariant-loop-object l = record {
  count : l.first + length (in_one_row (drop l.object-index l.layouts)) ≡ length (in_one_row l.layouts);
  so_far : l.copies.items ++ copies_from (is_copied l.copied) l.first (in_one_row (drop l.object-index l.layouts))
      ≡ copies_from (is_copied l.copied) 0 (in_one_row l.layouts);
}
