use Rattle.std.proofs.Common.{take}
use Rattle.wl_bind.specs.Parts.{AreRows}
use Rattle.wl_places.specs.AddressSteps.{AreObjectStarts}
use Rattle.wl_places.proofs.addresses.all_starts.Given as goal

abbrev pub invariant-loop-object : goal.invariant-loop-object
invariant-loop-object l =
    AreRows (AreObjectStarts l.placing) 0 (take l.object l.input.link.objects) l.starts.items
