use Rattle.std.proofs.Common.{◌≡◌, [], ◌++◌, ◌∙◌, List, rules, ap, sym, refl, drop, filter}
use Rattle.std.proofs.lemmas.List.{append-nil, drop_all}
use Rattle.wl_symbols.specs.ImportSlots.{ImportSlot, import_slots}
use Rattle.wl_symbols.specs.KeptSlots.{slots_from, is_kept_slot, kept_slots, is_left_slot}
use Rattle.wl_symbols.proofs.KeptSlotLaws.{left_more}
use Rattle.wl_symbols.proofs.kept_imports.left_slots.Goals as goal

pub loop-object-preserved : goal.loop-object-preserved
loop-object-preserved c =
    let input = c.args.input.now in
    let objects = input.link.objects in
    let kept = is_kept_slot input in
    let left = is_left_slot input in
    let here = import_slots objects c.loop-object.object c.args.kind in
    let slots : c.fill_slots.new.slots.items ≡ here = search rules in
    let those : c.retain_left.new.slots.items ≡ filter left (filter kept here) =
    c.retain_left.ensures ∙ ap (filter left) (c.retain_kept.ensures ∙ ap (filter kept) slots) in
    let new : c.append.new.self.items ≡ c.loop-object.left.items ++ filter left (filter kept here) = search rules in
    left_more kept left c.args.kind objects c.loop-object.object c.loop-object.left.items c.append.new.self.items (filter left (kept_slots input c.args.kind)) (search rules) new c.loop-object.invariant

pub returns : goal.returns
unfolding is_left_slot
returns c =
    let input = c.args.input.now in
    let k = c.loop-object.object in
    let objects = input.link.objects in
    let left = c.loop-object.left.items in
    let done : slots_from c.args.kind k (drop k objects) ≡ [] = rw (drop_all k objects (search rules)) refl in
    sym (append-nil left)
    ∙ (ap (λ (t : List ImportSlot). left ++ filter (is_left_slot input) (filter (is_kept_slot input) t)) (sym done)
    ∙ c.loop-object.invariant)
