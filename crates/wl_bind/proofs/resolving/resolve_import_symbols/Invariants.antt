use Rattle.std.proofs.Common.{◌≡◌, map, take}
use Rattle.wl_bind.specs.Resolutions.{named_resolution}
use Rattle.wl_bind.proofs.resolving.resolve_import_symbols.Given as goal

abbrev pub invariant-loop-slot : goal.invariant-loop-slot
invariant-loop-slot l = l.resolutions.items ≡ map (named_resolution l.input) (take l.slot-index l.slot-items)
