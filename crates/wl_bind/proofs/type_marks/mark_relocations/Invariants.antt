use Rattle.std.proofs.Common.{◌≡◌, map}
use Rattle.wl_symbols.specs.KeptRelocations.{relocations_left}
use Rattle.wl_bind.specs.steps.Merging.{mark_all, named_type}
use Rattle.wl_symbols.specs.Relocations.{object_relocations}
use Rattle.wl_bind.proofs.type_marks.mark_relocations.Given as goal

abbrev pub invariant-loop-relocated : goal.invariant-loop-relocated
invariant-loop-relocated l =
    mark_all l.marks.items (map named_type (relocations_left l.relocated-iterator))
    ≡ mark_all l.fn.marks.items
    (map named_type (object_relocations l.fn.input.live l.fn.object l.fn.file))
