use Rattle.std.proofs.Common.{◌≡◌, ◌++◌, drop}
use Rattle.wl_symbols.specs.Units.{units_of}
use Rattle.wl_lists.specs.Rows.{by_number}
use Rattle.wl_why.specs.Units.{object_units, all_units}
use Rattle.wl_why.proofs.units.all_units.Given as goal

abbrev pub invariant-loop-object : goal.invariant-loop-object
invariant-loop-object l = l.list.items ++ by_number object_units l.object (units_of (drop l.object l.objects)) ≡ all_units (units_of l.objects)
