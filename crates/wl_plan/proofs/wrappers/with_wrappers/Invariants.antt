use Rattle.wl_plan.proofs.WrapperLaws.{HasWrappers}
use Rattle.wl_plan.proofs.wrappers.with_wrappers.Given as goal

abbrev pub invariant-loop-wrapper : goal.invariant-loop-wrapper
invariant-loop-wrapper l = HasWrappers l.input l.wrapper-index l.fn.own.items l.functions.items
