use Rattle.std.proofs.Common.{ℕ, pos, List, ◌++◌, map, drop, None}
use Rattle.wl_synth.specs.Spelling.{AreShortImmediates, StandBehind}
use Rattle.wl_synth.specs.Encoding.{AddsText}
use Rattle.wl_synth.proofs.spelling.push_immediates.Given as goal

abbrev pub invariant-loop-number : goal.invariant-loop-number
invariant-loop-number l = (y : List ℕ) → AreShortImmediates None (map (λ n. pos n) (drop l.number-index l.numbers)) y
    → AddsText (StandBehind l.code None (map (λ n. pos n) l.numbers)) l.fn.out.items (l.out.items ++ y)
