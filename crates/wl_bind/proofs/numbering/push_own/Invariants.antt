use Rattle.std.proofs.Common.{◌≡◌, ◌++◌, map}
use Rattle.std.specs.List.{range_with_len}
use Rattle.wl_bind.specs.steps.OwnIndices.{own_unit, own_index}
use Rattle.wl_bind.proofs.numbering.push_own.Given as goal

abbrev pub invariant-loop-number : goal.invariant-loop-number
invariant-loop-number l =
    l.indices ≡ l.initial.indices
    ++ map (λ k. own_index l.input l.firsts l.object (own_unit l.own k)) (range_with_len 0 l.number)
