use Rattle.wl_symbols.specs.SlotTargets.{slot_target}
use Rattle.wl_lists.proofs.Places.{mapped_more}
use Rattle.wl_symbols.proofs.targets.slot_targets.Goals as goal

pub loop-slot-preserved : goal.loop-slot-preserved
loop-slot-preserved c =
    mapped_more (slot_target c.args.table.now) c.deref-slot-items.result.now c.loop-slot.slot-index c.slot-item.result c.loop-slot.list.items c.push.new.self.items c.slot_target.result c.loop-slot-test.true c.slot-item.is c.slot_target.ensures c.in_ok-push.ensures.items c.loop-slot.invariant
