use Rattle.std.proofs.Common.{◌≡◌, ◌++◌, drop, map}
use Rattle.wl_lists.specs.Rows.{by_number}
use Rattle.wl_symbols.specs.Live.{is_live}
use Rattle.wl_symbols.specs.Units.{units_of}
use Rattle.wl_why.specs.Units.{object_units, all_units}
use Rattle.wl_tests.proofs.search_steps.marks_of.Given as goal

abbrev pub invariant-loop-object : goal.invariant-loop-object
invariant-loop-object l = l.marks.items ++ map (is_live l.live) (by_number object_units l.object (units_of (drop l.object l.objects))) ≡ map (is_live l.live) (all_units (units_of l.objects))
