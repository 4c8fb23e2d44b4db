use Rattle.std.proofs.Common.{◌≡◌, take}
use Rattle.std.specs.Prelude.{filter}
use Rattle.wl_data.specs.DataPlaces.{greatest_alignment, is_thread_local, in_one_row}
use Rattle.wl_data.proofs.placing.tls_alignment.Given as goal

abbrev pub invariant-loop-object : goal.invariant-loop-object
invariant-loop-object l = l.greatest ≡ greatest_alignment (filter is_thread_local (in_one_row (take l.object-index l.objects)))
