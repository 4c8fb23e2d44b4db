use Rattle.std.proofs.Common.{◌∙◌, sym, ap, take}
use Rattle.std.specs.HashMap.{get_by}
use Rattle.std.specs.Str.{bytes_eq}
use Rattle.std.proofs.lemmas.List.{take_more}
use Rattle.std.proofs.lemmas.Map.Text.{hash_map_updates_str}
use Rattle.wl_symbols.specs.LeftSteps.{is_told_stub}
use Rattle.wl_symbols.proofs.TellingLaws.{names_more}
use Rattle.wl_symbols.proofs.left.stub_names.Goals as goal

pub loop-slot-preserved : goal.loop-slot-preserved
loop-slot-preserved c = λ q.
    let updated = hash_map_updates_str c.field.result.now c.loop-slot.names c.insert.new.self _ c.in_ok-insert.ensures.updates q in
    rw (take_more c.args.slots.now c.loop-slot.slot-index c.slot-item.result c.loop-slot-test.true, ← c.slot-item.is)
    (names_more c.args.table.now.objects (λ ds. get_by (λ k. bytes_eq ds k.now) c.loop-slot.names) _ q c.field.result.now (take c.loop-slot.slot-index c.args.slots.now) c.slot-item.result c.is_told_stub-before.result c.is_weak_with-both.result
    updated (c.is_told_stub-before.ensures ∙ ap (is_told_stub c.loop-slot.names) (sym c.field.ensures)) c.field.ensures c.is_weak_with-both.ensures c.loop-slot.invariant)
