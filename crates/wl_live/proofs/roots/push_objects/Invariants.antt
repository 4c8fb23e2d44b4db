use Rattle.std.proofs.Common.{◌≡◌, ◌++◌, drop}
use Rattle.wl_live.specs.Table.{roots_from}
use Rattle.wl_live.proofs.roots.push_objects.Given as goal

abbrev pub invariant-loop-object : goal.invariant-loop-object
invariant-loop-object l = l.list.items ++ roots_from l.symbols l.numbers l.object (drop l.object l.files) ≡ l.fn.list.items ++ roots_from l.symbols l.numbers 0 l.files
