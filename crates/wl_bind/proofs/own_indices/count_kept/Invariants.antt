use Rattle.std.proofs.Common.{◌≡◌, ◌≤◌}
use Rattle.wl_symbols.specs.Input.{keeps}
use Rattle.wl_bind.specs.steps.OwnIndices.{own_unit}
use Rattle.wl_bind.proofs.OwnLaws.{passing}
use Rattle.wl_bind.proofs.own_indices.count_kept.Given as goal

abbrev pub invariant-loop-number : goal.invariant-loop-number
invariant-loop-number l =
    (l.kept ≡ passing (λ k. keeps l.input l.object (own_unit l.own k)) l.number) × (l.kept ≤ l.number)
