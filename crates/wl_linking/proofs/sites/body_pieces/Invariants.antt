use Rattle.std.proofs.Common.{◌≡◌, map, take}
use Rattle.wl_linking.specs.Sites.{body_piece}
use Rattle.wl_linking.proofs.sites.body_pieces.Given as goal

abbrev pub invariant-loop-body : goal.invariant-loop-body
invariant-loop-body l = l.pieces.items ≡ map body_piece (take l.body-index l.bodies)
