use Rattle.std.proofs.Common.{◌≡◌, ◌++◌, drop, map, filter_map}
use Rattle.wl_bind.specs.FunctionTypes.{slot_type}
use Rattle.wl_bind.proofs.stubs.slot_types.Given as goal

abbrev pub invariant-loop-slot : goal.invariant-loop-slot
invariant-loop-slot l =
    l.types.items ++ filter_map (slot_type l.files) (map (λ t. t.now) (drop l.slot-index l.slots))
    ≡ filter_map (slot_type l.files) (map (λ t. t.now) l.slots)
