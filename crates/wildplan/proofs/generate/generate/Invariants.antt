use Rattle.std.proofs.Common.{◌≡◌, map}
use Rattle.std.specs.List.{range_with_len}
use Rattle.wl_generate.specs.Generated.{generated_object}
use Rattle.wildplan.proofs.generate.generate.Given as goal

abbrev pub invariant-loop-number : goal.invariant-loop-number
invariant-loop-number l = l.objects ≡ map (generated_object l.n) (range_with_len 0 l.number)
