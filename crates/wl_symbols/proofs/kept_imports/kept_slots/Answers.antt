use Rattle.std.proofs.Common.{◌≡◌, ◌++◌, rules, filter}
use Rattle.wl_symbols.specs.ImportSlots.{import_slots}
use Rattle.wl_symbols.specs.KeptSlots.{is_kept_slot, kept_slots}
use Rattle.wl_symbols.proofs.KeptSlotLaws.{kept_more}
use Rattle.wl_symbols.proofs.kept_imports.kept_slots.Goals as goal

pub loop-object-preserved : goal.loop-object-preserved
loop-object-preserved c =
    let input = c.args.input.now in
    let objects = input.link.objects in
    let slots : c.fill_slots.new.slots.items ≡ import_slots objects c.loop-object.object c.args.kind = search rules in
    let new : c.append.new.self.items ≡ c.loop-object.kept.items ++ filter (is_kept_slot input) (import_slots objects c.loop-object.object c.args.kind) = search rules in
    kept_more (is_kept_slot input) c.args.kind objects c.loop-object.object c.loop-object.kept.items c.append.new.self.items (kept_slots input c.args.kind) (search rules) new c.loop-object.invariant
