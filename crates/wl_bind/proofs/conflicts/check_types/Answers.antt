use Rattle.std.proofs.Common.{◌≡◌, ◌∙◌, ◌+◌, ◌∷◌, List, None, Some, refl, sym, ap, find, drop, true, false, map, Bor}
use Rattle.std.specs.Option.{option_map}
use Rattle.std.proofs.lemmas.List.{drop_all, map-append}
use Rattle.wl_linking.specs.Object.{Object}
use Rattle.wl_bind.specs.Conflicts.{same_slot_type, IsConflict}
use Rattle.wl_bind.specs.ConflictSteps.{SlotPair, slot_at, conflicting, conflict_from, same_slot}
use Rattle.wl_bind.proofs.ConflictLaws.{Met, met_next, met_more, met_conflict, first_among, no_conflict, a_conflict}
use Rattle.wl_bind.proofs.conflicts.check_types.Goals as goal
use Rattle.wl_symbols.specs.ImportSlots.{ImportSlot}
use Rattle.std.proofs.lemmas.Result.{err_from_is_err_and}
use Rattle.wl_linking.proofs.StepLaws.{refuses_memory}

pub loop-slot-preserved-in_default : goal.loop-slot-preserved-in_default
loop-slot-preserved-in_default c =
    let objects = c.args.input.now.link.objects in
    let imports = c.args.imports in
    let same = same_slot imports in
    let slots = c.args.slots.now in
    let firsts : List ImportSlot = map (λ t. t.now) c.loop-slot.firsts.items in
    let t = c.slot-item.result in
    let rest = drop (c.loop-slot.slot-index + 1) slots in
    let met : Met objects same slots firsts (t ∷ rest) = met_next objects same slots firsts c.loop-slot.slot-index t c.loop-slot-test.true c.slot-item.is c.loop-slot.invariant in
    let is : None ≡ find (same t) firsts = ap (option_map (λ s. s.now)) (sym c.in_default.is) ∙ (c.slot_at.ensures ∙ (ap (λ (ts : List (Bor ImportSlot)). slot_at (map (λ t. t.now) ts) c.place.result) c.as_slice.ensures.value ∙ ap (slot_at firsts) c.place.ensures ∙ first_among objects imports slots firsts rest t c.requires met)) in
    met_more objects same slots firsts rest (map (λ t. t.now) c.push.new.self.items) t None met is refl
    (ap (map (λ t. t.now)) c.in_ok-push.ensures.items ∙ map-append (λ (t : Bor ImportSlot). t.now) c.loop-slot.firsts.items _)

pub loop-slot-preserved : goal.loop-slot-preserved
loop-slot-preserved c =
    let objects = c.args.input.now.link.objects in
    let imports = c.args.imports in
    let same = same_slot imports in
    let slots = c.args.slots.now in
    let firsts : List ImportSlot = map (λ t. t.now) c.loop-slot.firsts.items in
    let t = c.slot-item.result in
    let f = c.in-Some.first.now in
    let rest = drop (c.loop-slot.slot-index + 1) slots in
    let met : Met objects same slots firsts (t ∷ rest) = met_next objects same slots firsts c.loop-slot.slot-index t c.loop-slot-test.true c.slot-item.is c.loop-slot.invariant in
    let is : Some f ≡ find (same t) firsts = ap (option_map (λ s. s.now)) (sym c.in-Some.is) ∙ (c.slot_at.ensures ∙ (ap (λ (ts : List (Bor ImportSlot)). slot_at (map (λ t. t.now) ts) c.place.result) c.as_slice.ensures.value ∙ ap (slot_at firsts) c.place.ensures ∙ first_among objects imports slots firsts rest t c.requires met)) in
    let on : same_slot_type objects f t ≡ true =
    sym (c.same_slot_type.ensures ∙ ap (λ (os : List Object). same_slot_type os f t) c.files-files.ensures.objects) ∙ c.if-not-same_slot_type.false in
    let none : conflicting objects (Some f) t ≡ None = rw on refl in
    met_more objects same slots firsts rest firsts t (Some f) met is none refl

pub returns-then-not-same_slot_type-clause-err : goal.returns-then-not-same_slot_type-clause-err
returns-then-not-same_slot_type-clause-err c =
    let objects = c.args.input.now.link.objects in
    let imports = c.args.imports in
    let same = same_slot imports in
    let slots = c.args.slots.now in
    let firsts : List ImportSlot = map (λ t. t.now) c.loop-slot.firsts.items in
    let t = c.slot-item.result in
    let f = c.in-Some.first.now in
    let rest = drop (c.loop-slot.slot-index + 1) slots in
    let met : Met objects same slots firsts (t ∷ rest) = met_next objects same slots firsts c.loop-slot.slot-index t c.loop-slot-test.true c.slot-item.is c.loop-slot.invariant in
    let is : Some f ≡ find (same t) firsts = ap (option_map (λ s. s.now)) (sym c.in-Some.is) ∙ (c.slot_at.ensures ∙ (ap (λ (ts : List (Bor ImportSlot)). slot_at (map (λ t. t.now) ts) c.place.result) c.as_slice.ensures.value ∙ ap (slot_at firsts) c.place.ensures ∙ first_among objects imports slots firsts rest t c.requires met)) in
    let off : same_slot_type objects f t ≡ false =
    sym (c.same_slot_type.ensures ∙ ap (λ (os : List Object). same_slot_type os f t) c.files-files.ensures.objects) ∙ c.if-not-same_slot_type.true in
    let p : SlotPair = record { first = f; second = t } in
    let some : conflicting objects (Some f) t ≡ Some p = rw off refl in
    rw c.in_ok-refusal.ensures
    (a_conflict objects imports slots p (met_conflict objects same slots firsts rest t (Some f) p met is some))

pub returns-clause-clear : goal.returns-clause-clear
returns-clause-clear c =
    let objects = c.args.input.now.link.objects in
    let same = same_slot c.args.imports in
    let firsts : List ImportSlot = map (λ t. t.now) c.loop-slot.firsts.items in
    no_conflict objects c.args.imports c.args.slots.now
    (sym c.loop-slot.invariant.conflict
    ∙ ap (conflict_from objects same firsts) (drop_all c.loop-slot.slot-index c.args.slots.now c.loop-slot-test.false))

pub returns-in_err-push-clause-err : goal.returns-in_err-push-clause-err
returns-in_err-push-clause-err c =
    let p = err_from_is_err_and c.from_residual.result c.from_residual.ensures.1 in
    rw p.1 (refuses_memory (IsConflict c.args.input.now.link.objects (same_slot c.args.imports) c.args.slots.now) p.0 p.2)

pub returns-in_err-refusal-clause-err : goal.returns-in_err-refusal-clause-err
returns-in_err-refusal-clause-err c =
    let residual = c.from_residual-in_err-refusal in
    let p = err_from_is_err_and residual.result residual.ensures.1 in
    rw p.1 (refuses_memory (IsConflict c.args.input.now.link.objects (same_slot c.args.imports) c.args.slots.now) p.0 p.2)
