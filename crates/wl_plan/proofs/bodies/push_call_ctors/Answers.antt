use Rattle.wl_symbols.specs.declared.linker_symbol.WasmLinkerSymbol.TheVariants.{CallCtors}
use Rattle.wl_bind.specs.FunctionSpace.{FunctionOf, made_function_part}
use Rattle.wl_plan.specs.BodySteps.{AddsMadeBody, AddsBodies}
use Rattle.std.proofs.Common.{[], map, refl, sym}
use Rattle.wl_synth.specs.Bodies.{call_sequence_ops}
use Rattle.wl_bind.specs.declared.binding.FunctionTarget.TheVariants.{Made}
use Rattle.wl_plan.specs.Bodies.{called}
use Rattle.wl_plan.proofs.FunctionLaws.{no_made, ok_then, one_made}
use Rattle.wl_plan.proofs.GrowLaws.{adds_made, adds_none, adds_same, ctors_encoded}
use Rattle.wl_plan.proofs.bodies.push_call_ctors.Goals as goal

pub returns-in-None : goal.returns-in-None
returns-in-None c = λ input g b.
    adds_same input g [] (made_function_part input CallCtors) c.args.bodies.now.items
    c.args.bodies.now.items (sym (no_made input CallCtors (c.in-None.ensures input b.indices)))
    (adds_none input g c.args.bodies.now.items)

pub returns-in_ok-body-in-Some : goal.returns-in_ok-body-in-Some
returns-in_ok-body-in-Some c = λ input g b.
    let calls = c.args.bindings.now.calls in
    let bytes = c.in_ok-body-in-Some.body.items in
    let old = c.args.bodies.now.items in
    let new = c.push_made.new.bodies.items in
    ok_then c.push_made.result (AddsMadeBody bytes old new)
    (AddsBodies input g (made_function_part input CallCtors) old new)
    (λ (a : AddsMadeBody bytes old new).
    adds_made input g (made_function_part input CallCtors) (FunctionOf (Made CallCtors))
    (call_sequence_ops (map called calls)) bytes old new
    (one_made input CallCtors c.in-Some.field-0 (c.in-Some.ensures input b.indices))
    (record { calls = calls; are_calls = b.calls; are = refl })
    (ctors_encoded c.as_slice.result.now calls bytes c.as_slice.ensures
    c.in_ok-body-in-Some.ensures)
    (λ body x. x) a)
    c.push_made.ensures
