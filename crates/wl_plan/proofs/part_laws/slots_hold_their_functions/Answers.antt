use Rattle.wl_plan.proofs.PartLaws.{slot_holds}
use Rattle.wl_plan.proofs.part_laws.slots_hold_their_functions.Goals as goal

pub returns : goal.returns
returns c = slot_holds (record {
  one = c.same_targets_are_one.ensures.functions;
  once = c.entries_stand_once.ensures.functions;
})
