use Rattle.wl_features.specs.Disallowing.{first_in, AreFirsts}
use Rattle.wl_features.proofs.disallowed.DisallowedFeatures.of.Given as goal

abbrev pub invariant-loop-object : goal.invariant-loop-object
invariant-loop-object l = AreFirsts (first_in l.firsts) l.files l.object
