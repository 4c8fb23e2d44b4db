use Rattle.std.proofs.Common.{◌≡◌, ◌∙◌, refl, ap, rules, true, None, map, List}
use Rattle.wl_symbols.specs.SlotTargets.{slot_target}
use Rattle.wl_symbols.specs.KeptSlots.{is_kept_slot}
use Rattle.wl_symbols.specs.Left.{HostImport, first_slot}
use Rattle.wl_bind.specs.BindingSteps.{left_place, left_resolution}
use Rattle.wl_bind.specs.FunctionBinding.{left_functions, link_stubs}
use Rattle.wl_bind.specs.Shared.{function_imports}
use Rattle.wl_bind.proofs.LeftLaws.{left_binds}
use Rattle.wl_bind.proofs.SharedLaws.{left_placed}
use Rattle.wl_bind.proofs.StubLaws.{StubsAreTold, is_left, left_resolved}
use Rattle.wl_bind.proofs.function_slots.bound_slot.Goals as goal

pub returns-in-None-clause-target : goal.returns-in-None-clause-target
returns-in-None-clause-target c =
    let kept : is_kept_slot c.args.input.now c.args.slot.now ≡ true = search rules in
    let none : slot_target c.args.input.now.link c.args.slot.now ≡ None = search rules in
    let e = left_binds c.args.input.now c.args.slot.now c.requires.here kept none in
    rw (kept, e, ← c.requires.stubs, ← c.requires.hosts) c.left_slot.ensures.target

pub returns-in-None-clause-resolution : goal.returns-in-None-clause-resolution
returns-in-None-clause-resolution c =
    let input = c.args.input.now in
    let t = c.args.slot.now in
    let kept : is_kept_slot input t ≡ true = search rules in
    let none : slot_target input.link t ≡ None = search rules in
    let told : StubsAreTold input = λ s h. c.stubs_are_found_by_name.ensures.told input.link.objects (left_functions input) s h in
    c.left_slot.ensures.resolution ∙ ap (λ (stubs : List HostImport). left_resolution stubs t) c.requires.stubs
    ∙ left_resolved input t told c.requires.here kept none

pub returns-in-None-clause-place : goal.returns-in-None-clause-place
returns-in-None-clause-place c =
    let input = c.args.input.now in
    let t = c.args.slot.now in
    let kept : is_kept_slot input t ≡ true = search rules in
    let none : slot_target input.link t ≡ None = search rules in
    let told : StubsAreTold input = λ s h. c.stubs_are_found_by_name.ensures.told input.link.objects (left_functions input) s h in
    c.left_slot.ensures.place
    ∙ ap (λ (stubs : List HostImport). left_place stubs c.args.left.now.hosts t) c.requires.stubs
    ∙ ap (λ (hosts : List HostImport). left_place (map first_slot (link_stubs input)) hosts t) c.requires.hosts
    ∙ left_placed input (function_imports input) t told (is_left input t c.requires.here kept none) kept none

pub returns-then-not-is_kept_slot-clause-target : goal.returns-then-not-is_kept_slot-clause-target
returns-then-not-is_kept_slot-clause-target c = rw (← c.if-not-is_kept_slot.ensures) refl

pub returns-then-not-is_kept_slot-clause-resolution : goal.returns-then-not-is_kept_slot-clause-resolution
returns-then-not-is_kept_slot-clause-resolution c = rw (← c.if-not-is_kept_slot.ensures) c.without_import.ensures.resolution

pub returns-then-not-is_kept_slot-clause-place : goal.returns-then-not-is_kept_slot-clause-place
returns-then-not-is_kept_slot-clause-place c = rw (← c.if-not-is_kept_slot.ensures) c.without_import.ensures.place
