use Rattle.std.proofs.Common.{ℕ, ◌≡◌, ◌≤◌, ◌*◌, ◌^◌, take}
use Rattle.std.specs.Prelude.{sum_by}
use Rattle.wl_plan.specs.Dropped.{dropped_in}
use Rattle.wildplan.proofs.summary.dropped_in_all.Given as goal

-- what the objects so far drop
pub record IsSumOf (dropped total count : ℕ) : Type 0 where
  pub sum : dropped ≡ total
  pub within : dropped ≤ count * 2 ^ 64

abbrev pub invariant-loop-map : goal.invariant-loop-map
invariant-loop-map l = IsSumOf l.dropped (sum_by dropped_in (take l.map-index l.maps)) l.map-index
