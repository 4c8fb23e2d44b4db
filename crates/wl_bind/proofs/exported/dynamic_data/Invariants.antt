use Rattle.std.proofs.Common.{◌≡◌, ◌+◌, ◌++◌, drop}
use Rattle.wl_bind.specs.ExportedData.{dynamic_from, dynamic_in}
use Rattle.wl_bind.specs.Parts.{by_object}
use Rattle.wl_bind.proofs.exported.dynamic_data.Given as goal

abbrev pub invariant-loop-object : goal.invariant-loop-object
invariant-loop-object l =
    l.list ++ by_object (dynamic_in l.input) l.object (drop l.object l.input.link.objects)
    ≡ by_object (dynamic_in l.input) 0 l.input.link.objects

abbrev pub invariant-loop-i : goal.invariant-loop-i
invariant-loop-i l =
    l.list ++ (dynamic_from l.input l.object l.i (drop l.i l.symbol-items)
    ++ by_object (dynamic_in l.input) (l.object + 1) (drop (l.object + 1) l.input.link.objects))
    ≡ by_object (dynamic_in l.input) 0 l.input.link.objects
