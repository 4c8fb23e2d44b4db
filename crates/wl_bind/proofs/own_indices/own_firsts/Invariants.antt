use Rattle.std.proofs.Common.{◌≡◌, ◌≤◌, ◌+◌, ◌++◌, drop}
use Rattle.wl_index.specs.declared.index.TheConstants.{MAX_ENTRIES}
use Rattle.wl_bind.specs.steps.OwnIndices.{firsts_from, kept_count, own_firsts, space_length}
use Rattle.wl_bind.proofs.own_indices.own_firsts.Given as goal

abbrev pub invariant-loop-object : goal.invariant-loop-object
invariant-loop-object l =
    (l.firsts.items ++ firsts_from l.input l.own l.next l.object (drop l.object l.input.link.objects) ≡ own_firsts l.input l.own)
    × (l.next + kept_count l.input l.own l.object (drop l.object l.input.link.objects) ≡ space_length l.input l.own)
    × (l.next ≤ MAX_ENTRIES)
