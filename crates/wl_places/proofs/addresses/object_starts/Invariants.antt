use Rattle.std.proofs.Common.{◌≡◌, take}
use Rattle.wl_places.specs.AddressSteps.{starts_among}
use Rattle.wl_places.proofs.addresses.object_starts.Given as goal

abbrev pub invariant-loop-layout : goal.invariant-loop-layout
invariant-loop-layout l =
    l.starts.items ≡ starts_among (take l.layout-index l.layouts) l.count
