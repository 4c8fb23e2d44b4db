use Rattle.std.proofs.Common.{◌≡◌, ◌++◌, drop}
use Rattle.wl_live.specs.Facts.{segment_uses}
use Rattle.wl_live.proofs.faults.push_segments.Given as goal

abbrev pub invariant-loop-number : goal.invariant-loop-number
invariant-loop-number l = l.segments.items ++ segment_uses l.function (drop l.number-index l.numbers) ≡ l.fn.segments.items ++ segment_uses l.function l.numbers
