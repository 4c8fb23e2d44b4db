use Rattle.wl_linking.proofs.SlotLaws.{repeat_more}
use Rattle.wl_linking.proofs.slots.no_names.Goals as goal

pub loop-preserved : goal.loop-preserved
loop-preserved c = rw (c.in_ok-push.ensures.items, c.loop.invariant) (repeat_more _ c.loop.counter)
