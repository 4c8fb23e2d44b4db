use Rattle.std.proofs.Common.{arith}
use Rattle.std.proofs.lemmas.List.Sorted.{IsNonDecreasingBy-from_all_adjacent}
use Rattle.wl_run.specs.Sites.{fixup_rank}
use Rattle.wl_run.proofs.filling.are_in_order.Goals as goal

pub returns : goal.returns
returns c = λ _.
    IsNonDecreasingBy-from_all_adjacent fixup_rank c.args.fixups.now
    (λ k d lt. c.loop-i.invariant k d (omega arith))
