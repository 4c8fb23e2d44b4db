use Rattle.std.proofs.Common.{drop}
use Rattle.wl_bind.specs.OutputTypes.{types_if}
use Rattle.wl_bind.specs.steps.Merging.{is_marked}
use Rattle.wl_bind.proofs.MergeLaws.{Merging}
use Rattle.wl_bind.proofs.merging.merge_marked.Given as goal

abbrev pub invariant-loop-number : goal.invariant-loop-number
invariant-loop-number l =
    Merging l.fn.merger (types_if (is_marked l.marks) 0 l.types)
    (types_if (is_marked l.marks) l.number (drop l.number l.types)) l.merger l.indices
