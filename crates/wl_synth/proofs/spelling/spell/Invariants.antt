use Rattle.std.proofs.Common.{ℕ, List, ◌++◌, drop}
use Rattle.wl_synth.specs.Spelling.{AreSpelled, IsSpelledBody, as_ops}
use Rattle.wl_synth.specs.Encoding.{AreInRange}
use Rattle.wl_synth.proofs.spelling.spell.Given as goal

abbrev pub invariant-loop-operator : goal.invariant-loop-operator
invariant-loop-operator l = record {
  made : (y : List ℕ) → AreSpelled (as_ops (drop l.operator-index l.operators)) y → IsSpelledBody (as_ops l.operators) (l.out.items ++ y);
  in_range : AreInRange (as_ops (drop l.operator-index l.operators)) → AreInRange (as_ops l.operators);
}
