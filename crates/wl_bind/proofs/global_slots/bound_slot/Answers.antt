use Rattle.std.proofs.Common.{◌≡◌, ◌∙◌, ap, rules, true, None}
use Rattle.wl_symbols.specs.SlotTargets.{slot_target}
use Rattle.wl_symbols.specs.KeptSlots.{is_kept_slot}
use Rattle.wl_bind.specs.steps.GlobalSlots.{left_global_place}
use Rattle.wl_bind.specs.Later.{later_by_got}
use Rattle.wl_bind.specs.Scan.{Scanned}
use Rattle.wl_bind.proofs.GlobalLaws.{left_resolved}
use Rattle.wl_bind.proofs.SharedLaws.{left_global_placed}
use Rattle.wl_bind.proofs.global_slots.bound_slot.Goals as goal

pub returns-in-None-clause-resolution : goal.returns-in-None-clause-resolution
returns-in-None-clause-resolution c =
    let input = c.args.input.now in
    let t = c.args.slot.now in
    let kept : is_kept_slot input t ≡ true = search rules in
    let none : slot_target input.link t ≡ None = search rules in
    c.left_slot.ensures.resolution ∙ ap (λ (s : Scanned). later_by_got s t.item.origin t.item.name) c.requires.scan
    ∙ left_resolved input t kept none

pub returns-in-None-clause-place : goal.returns-in-None-clause-place
returns-in-None-clause-place c =
    let input = c.args.input.now in
    let t = c.args.slot.now in
    let hosts = c.args.hosts.now in
    let kept : is_kept_slot input t ≡ true = search rules in
    let none : slot_target input.link t ≡ None = search rules in
    c.left_slot.ensures.place ∙ ap (λ (s : Scanned). left_global_place s hosts t) c.requires.scan
    ∙ left_global_placed input hosts t kept none
