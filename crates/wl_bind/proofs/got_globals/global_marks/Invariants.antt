use Rattle.std.proofs.Common.{◌≡◌, ◌++◌, map, length}
use Rattle.std.specs.List.{list_any, range_with_len}
use Rattle.wl_bind.specs.IndexMaps.{is_global_of}
use Rattle.wl_symbols.specs.KeptRelocations.{relocations_left}
use Rattle.wl_symbols.specs.Relocations.{object_relocations}
use Rattle.wl_bind.proofs.got_globals.global_marks.Given as goal

abbrev pub invariant-loop-relocated : goal.invariant-loop-relocated
invariant-loop-relocated l =
    (l.yielded ++ relocations_left l.relocated-iterator
    ≡ object_relocations l.fn.input.live l.fn.object l.fn.file)
    × (l.marks.items
    ≡ map (λ k. list_any (is_global_of k) l.yielded) (range_with_len 0 (length l.fn.file.symbols)))
