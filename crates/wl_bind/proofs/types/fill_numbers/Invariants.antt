use Rattle.std.proofs.Common.{◌≡◌, ◌++◌, drop}
use Rattle.wl_bind.specs.BindingSteps.{numbers_in}
use Rattle.wl_bind.proofs.types.fill_numbers.Given as goal

abbrev pub invariant-loop-import : goal.invariant-loop-import
invariant-loop-import l = l.list.items ++ numbers_in (drop l.import-index l.import-items) ≡ numbers_in l.import-items
