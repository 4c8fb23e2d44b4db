use Rattle.std.proofs.Common.{◌≡◌}
use Rattle.wl_bind.specs.Later.{with_functions}
use Rattle.wl_bind.specs.Stepped.{stepped, stepped_behind}
use Rattle.wl_bind.proofs.stubs.set_functions.Given as goal

abbrev pub invariant-loop-object : goal.invariant-loop-object
invariant-loop-object l =
    stepped_behind with_functions l.object-iterator.count l.object-iterator.count l.object-iterator.iter.rest.items l.rows
    ≡ stepped with_functions 0 l.fn.functions.items l.fn.rows
