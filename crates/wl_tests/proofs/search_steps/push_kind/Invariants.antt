use Rattle.std.proofs.Common.{◌≡◌, ◌++◌, map}
use Rattle.wl_symbols.specs.Live.{is_live}
use Rattle.wl_why.specs.Units.{kind_units}
use Rattle.wl_tests.proofs.search_steps.push_kind.Given as goal

abbrev pub invariant-loop-k : goal.invariant-loop-k
invariant-loop-k l = l.marks.items ≡ l.fn.marks.items ++ map (is_live l.live) (kind_units l.object l.kind l.k)
