use Rattle.std.proofs.Common.{◌≡◌, take}
use Rattle.std.specs.Prelude.{filter}
use Rattle.wl_data.specs.DataPlaces.{greatest_alignment, is_thread_local}
use Rattle.wl_data.proofs.placing.tls_alignment_of.Given as goal

abbrev pub invariant-loop-segment : goal.invariant-loop-segment
invariant-loop-segment l = l.greatest ≡ greatest_alignment (filter is_thread_local (take l.segment-index l.segments))
