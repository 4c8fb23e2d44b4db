use Rattle.std.proofs.Common.{◌≡◌, ◌∙◌, sym, arith, rules, bytes_eq, Some, option_map, slice_get, Bor}
use Rattle.std.proofs.lemmas.Grind.{common_steps}
use Rattle.std.proofs.lemmas.Option.{gets}
use Rattle.wl_symbols.specs.Left.{HostImport}
use Rattle.wl_bind.specs.BindingSteps.{stub_named}
use Rattle.wl_bind.proofs.LeftLaws.{some_place}
use Rattle.wl_bind.proofs.function_slots.stub_slot.Goals as goal

pub returns-in-Some-clause-target : goal.returns-in-Some-clause-target
returns-in-Some-clause-target c =
    let name = c.args.slot.now.item.name in
    let stubs = c.args.left.now.stubs in
    let at = some_place (λ (h : HostImport). bytes_eq name h.name) stubs c.args.place c.requires in
    let got : option_map (λ (h : Bor HostImport). h.now) c.get.result ≡ slice_get stubs c.args.place = grind (arith, common_steps, gets, c.as_slice.ensures) in
    let some : stub_named name stubs ≡ Some c.in-Some.stub.now = sym at ∙ (sym got ∙ search rules) in
    rw some (search rules)
