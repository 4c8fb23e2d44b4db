use Rattle.std.proofs.Common.{◌≡◌, drop}
use Rattle.wl_bind.specs.steps.Merging.{mark_all, function_types}
use Rattle.wl_bind.proofs.type_marks.mark_functions.Given as goal

abbrev pub invariant-loop-number : goal.invariant-loop-number
invariant-loop-number l =
    mark_all l.marks.items (function_types l.input l.object l.number (drop l.number l.functions))
    ≡ mark_all l.fn.marks.items (function_types l.input l.object 0 l.functions)
