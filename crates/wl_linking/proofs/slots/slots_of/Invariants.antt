use Rattle.std.proofs.Common.{◌≡◌, ◌++◌, drop}
use Rattle.wl_linking.specs.Slots.{slots_of}
use Rattle.wl_linking.proofs.slots.slots_of.Given as goal

abbrev pub invariant-loop-placed : goal.invariant-loop-placed
invariant-loop-placed l = l.slots.items ++ slots_of l.kind l.base (drop l.placed-index l.imports) ≡ slots_of l.kind l.base l.imports
