use Rattle.wl_bind.specs.Resolutions.{named_resolution}
use Rattle.wl_lists.proofs.Places.{mapped_more}
use Rattle.wl_bind.proofs.resolving.resolve_import_symbols.Goals as goal

pub loop-slot-preserved : goal.loop-slot-preserved
loop-slot-preserved c =
    mapped_more (named_resolution c.args.input.now) c.deref-slot-items.result.now c.loop-slot.slot-index
    c.slot-item.result c.loop-slot.resolutions.items c.push.new.self.items c.named_resolution.result
    c.loop-slot-test.true c.slot-item.is c.named_resolution.ensures c.in_ok-push.ensures.items
    c.loop-slot.invariant
