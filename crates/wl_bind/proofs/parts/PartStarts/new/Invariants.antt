use Rattle.std.proofs.Common.{◌≡◌, ◌≤◌, ◌+◌, ◌++◌, drop}
use Rattle.wl_index.specs.declared.index.TheConstants.{MAX_ENTRIES}
use Rattle.wl_bind.specs.Parts.{starts_from, total}
use Rattle.wl_bind.proofs.parts.PartStarts.new.Given as goal

abbrev pub invariant-loop-len : goal.invariant-loop-len
invariant-loop-len l =
    (l.starts ++ starts_from l.end (drop l.len-index l.lengths) ≡ starts_from 0 l.lengths)
    × (l.end + total (drop l.len-index l.lengths) ≡ total l.lengths)
    × (l.end ≤ MAX_ENTRIES)
