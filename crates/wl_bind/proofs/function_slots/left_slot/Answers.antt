use Rattle.std.proofs.Common.{◌≡◌, rules, bytes_eq, None}
use Rattle.wl_symbols.specs.Left.{HostImport, place_of_name}
use Rattle.wl_bind.specs.BindingSteps.{stub_named}
use Rattle.wl_bind.proofs.LeftLaws.{no_place}
use Rattle.wl_bind.proofs.function_slots.left_slot.Goals as goal

pub returns-in-None-clause-target : goal.returns-in-None-clause-target
returns-in-None-clause-target c =
    let name = c.args.slot.now.item.name in
    let stubs = c.args.left.now.stubs in
    let place : place_of_name name stubs ≡ None = search rules in
    let none : stub_named name stubs ≡ None = no_place (λ (h : HostImport). bytes_eq name h.name) stubs place in
    rw none c.host_slot.ensures.target
