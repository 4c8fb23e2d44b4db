use Rattle.wl_plan.proofs.DroppedLaws.{plan_marked}
use Rattle.wl_plan.proofs.part_laws.maps_mark_what_is_dropped.Goals as goal

pub returns : goal.returns
returns c = plan_marked
