use Rattle.std.proofs.Common.{ℕ, map}
use Rattle.std.specs.List.{range_with_len}
use Rattle.wl_bind.specs.GlobalSpace.{GlobalOf}
use Rattle.wl_bind.specs.declared.binding.GlobalTarget.TheVariants.{GotFunc}
use Rattle.wl_plan.specs.steps.Globals.{AddsPart}
use Rattle.wl_plan.proofs.globals.push_got_func.Given as goal

abbrev pub invariant-loop-place : goal.invariant-loop-place
invariant-loop-place l =
    AddsPart l.sources (map (λ (k : ℕ). GlobalOf (GotFunc k)) (range_with_len 0 l.place))
    l.fn.globals.items l.globals.items
