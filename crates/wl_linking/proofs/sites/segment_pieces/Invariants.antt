use Rattle.std.proofs.Common.{◌≡◌, map, take}
use Rattle.wl_linking.specs.Sites.{segment_piece}
use Rattle.wl_linking.proofs.sites.segment_pieces.Given as goal

abbrev pub invariant-loop-segment : goal.invariant-loop-segment
invariant-loop-segment l = l.pieces.items ≡ map segment_piece (take l.segment-index l.segments)
