use Rattle.std.proofs.Common.{List}
use Rattle.wl_symbols.specs.ImportSlots.{ImportSlot, import_slots}
use Rattle.wl_bind.specs.steps.Numbered.{IsSlotIndex}
use Rattle.wl_bind.specs.declared.resolution.ImportResolution.TheVariants.{Unresolved}
use Rattle.wl_bind.proofs.NumberingLaws.{zip_more, has_index, is_slot_index, slots_long}
use Rattle.wl_bind.proofs.numbering.Numbering.slot_indices.Goals as goal

pub slot_index-requires-clause-there : goal.slot_index-requires-clause-there
slot_index-requires-clause-there c =
    has_index c.args.self.now c.args.kind c.args.object c.loop-slot.slot c.args.resolutions.now Unresolved
    c.loop-slot-test.true c.requires.row c.requires.there

pub loop-slot-preserved : goal.loop-slot-preserved
loop-slot-preserved c =
    let n = c.args.self.now in
    let slots : List ImportSlot = import_slots n.input.now.link.objects c.args.object c.args.kind in
    zip_more (IsSlotIndex n c.args.kind) slots c.loop-slot.indices c.push.new.self c.loop-slot.slot c.slot_index.result
    (slots_long n c.args.kind c.args.object c.loop-slot.slot c.args.resolutions.now c.loop-slot-test.true c.requires.row)
    (λ t here. is_slot_index n c.args.kind c.args.object c.loop-slot.slot c.slot_index.result c.args.resolutions.now
    Unresolved t c.requires.row c.slot_index.ensures.kept c.slot_index.ensures.dead here)
    c.in_ok-push.ensures.ok c.loop-slot.invariant
