use Rattle.std.proofs.Common.{take}
use Rattle.wl_features.proofs.PrefixLaws.{AreKnown, KnownBelow}
use Rattle.wl_features.proofs.checking.check_prefixes.Given as goal

abbrev pub invariant-loop-feature : goal.invariant-loop-feature
invariant-loop-feature l = AreKnown (take l.feature-index l.feature-items)

abbrev pub invariant-loop-object : goal.invariant-loop-object
invariant-loop-object l = KnownBelow l.files l.object
