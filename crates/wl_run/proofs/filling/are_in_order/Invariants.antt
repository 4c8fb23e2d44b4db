use Rattle.std.proofs.Common.{◌≤◌}
use Rattle.std.specs.List.{AllAdjacentBelow}
use Rattle.wl_output.specs.declared.fixups.Fixup.{Fixup}
use Rattle.wl_run.specs.Sites.{fixup_rank}
use Rattle.wl_run.proofs.filling.are_in_order.Given as goal

abbrev pub invariant-loop-i : goal.invariant-loop-i
invariant-loop-i l =
    AllAdjacentBelow (λ (x : Fixup) (y : Fixup). fixup_rank x ≤ fixup_rank y) l.fixups l.i
