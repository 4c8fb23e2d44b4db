use Rattle.std.proofs.Common.{◌≡◌, ◌++◌, drop}
use Rattle.wildplan.specs.Loading.{image_functions}
use Rattle.wildplan.proofs.loading.image_functions.Given as goal

abbrev pub invariant-loop-i : goal.invariant-loop-i
invariant-loop-i l =
    l.made.items ++ image_functions l.fixups (drop l.i l.functions) (drop l.i l.bodies)
    ≡ image_functions l.fixups l.functions l.bodies
