use Rattle.std.proofs.Common.{◌≡◌, ◌++◌, map, take}
use Rattle.wl_numeric.specs.Values.{number_of}
use Rattle.wl_text.specs.Pieces.{numbers_text}
use Rattle.wl_run.proofs.lines.push_results.Given as goal

abbrev pub invariant-loop-value : goal.invariant-loop-value
invariant-loop-value l =
    l.page ≡ l.fn.page ++ numbers_text (map number_of (take l.value-index l.results))
