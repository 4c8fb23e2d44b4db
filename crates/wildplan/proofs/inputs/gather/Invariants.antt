use Rattle.std.proofs.Common.{◌≡◌, length}
use Rattle.wildplan.proofs.Gathering.{GathersOn}
use Rattle.wildplan.proofs.inputs.gather.Given as goal

abbrev pub invariant-loop-place : goal.invariant-loop-place
invariant-loop-place g l = record {
  on : GathersOn l.names (g.F.Files.state l.fn.files) (g.F.Files.state l.files) l.place l.objects;
  room : length l.piece ≡ length l.fn.piece;
}
