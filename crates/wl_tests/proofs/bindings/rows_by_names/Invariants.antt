use Rattle.std.proofs.Common.{◌≡◌, ◌++◌, drop}
use Rattle.wl_bind.specs.Resolutions.{resolutions, rows_from, by_names}
use Rattle.wl_tests.proofs.bindings.rows_by_names.Given as goal

abbrev pub invariant-loop-object : goal.invariant-loop-object
invariant-loop-object l =
    l.rows.items ++ rows_from (by_names l.input) l.object (drop l.object l.input.link.objects)
    ≡ resolutions l.input (by_names l.input)
