use Rattle.std.proofs.Common.{◌≡◌, take}
use Rattle.wl_linking.proofs.file.File.function_bodies.Given as goal

abbrev pub invariant-loop-body : goal.invariant-loop-body
invariant-loop-body l = l.bodies.items ≡ take l.body-index l.body-items
