use Rattle.std.proofs.Common.{◌≡◌, false, ◌+◌, ◌-◌, length, cond}
use Rattle.wl_files.specs.Files.{IsKnown}
use Rattle.wl_files.proofs.Reading.{ReadsOn}
use Rattle.wl_files.proofs.read.read_with.Given as goal

abbrev pub invariant-loop-ended : goal.invariant-loop-ended
invariant-loop-ended g l = record {
  reads : ReadsOn (g.F.Files.state l.fn.files) (g.F.Files.state l.files) l.name l.bytes.items l.limit l.ended;
  unfailed : (g.F.Files.state l.files).failed ≡ false;
  room : length l.piece ≡ length l.fn.piece;
  calm : g.F.Files.is_calm l.fn.files → IsKnown (g.F.Files.state l.fn.files).names l.name → g.F.Files.is_calm l.files;
}

abbrev pub decreases-loop-ended : goal.decreases-loop-ended
decreases-loop-ended g l = (l.limit - length l.bytes.items) + cond l.ended 0 1
