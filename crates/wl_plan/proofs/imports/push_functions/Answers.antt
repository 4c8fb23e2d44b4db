use Rattle.std.proofs.Common.{◌≡◌, ◌∙◌, ◌<◌, ◌≤◌, List, length, get_or, ap, sym, subst, arith, eqb-true, Some, slice_get}
use Rattle.std.proofs.lemmas.Option.{slice_get-get_or}
use Rattle.wl_symbols.specs.Left.{HostImport}
use Rattle.wl_bind.specs.BindingSteps.{slot_numbers}
use Rattle.wl_bind.specs.OutputTypes.{output_types}
use Rattle.wl_bind.specs.Shared.{Shared, function_imports}
use Rattle.wl_plan.specs.steps.Imports.{HasTypeIndexIn}
use Rattle.wl_plan.specs.Imports.{IsFunctionImport}
use Rattle.wl_plan.proofs.ImportLaws.{adds_nothing, host_typed, import_more, imports_done}
use Rattle.wl_plan.proofs.imports.push_functions.Goals as goal

pub returns-then-is_empty : goal.returns-then-is_empty
returns-then-is_empty c =
    let input = c.args.input.now in
    let hosts : c.functions-hosts.result.now ≡ function_imports input =
    c.functions-hosts.ensures ∙ ap (λ (s : Shared). s.functions) c.requires.bindings.shared in
    let none : length c.functions-hosts.result.now ≡ 0 =
    eqb-true (length c.functions-hosts.result.now) 0 (sym c.is_empty.ensures ∙ c.if-is_empty.true) in
    imports_done (IsFunctionImport input (output_types input)) (function_imports input) 0 c.args.imports.now.items c.args.imports.now.items
    (subst (λ (hs : List HostImport). length hs ≤ 0) hosts (omega (arith, none)))
    (adds_nothing (IsFunctionImport input (output_types input)) c.args.imports.now.items)

pub loop-host-init : goal.loop-host-init
loop-host-init c =
    let input = c.args.input.now in
    adds_nothing (IsFunctionImport input (output_types input)) c.args.imports.now.items

pub loop-host-preserved : goal.loop-host-preserved
loop-host-preserved c =
    let input = c.args.input.now in
    let b = c.requires.bindings in
    let k = c.loop-host.host-index in
    let h = c.host-item.result in
    let hosts : c.functions-hosts.result.now ≡ function_imports input =
    c.functions-hosts.ensures ∙ ap (λ (s : Shared). s.functions) b.shared in
    let lt : k < length (function_imports input) =
    subst (λ (hs : List HostImport). k < length hs) hosts c.loop-host-test.true in
    let is : h ≡ get_or (function_imports input) k h =
    c.host-item.is ∙ ap (λ (hs : List HostImport). get_or hs k h) hosts in
    let at : slice_get (function_imports input) k ≡ Some h =
    slice_get-get_or (function_imports input) k h lt ∙ ap (λ (g : HostImport). Some g) (sym is) in
    let typed : HasTypeIndexIn input c.in_ok-slots.slots c.args.maps.now h =
    host_typed input k h c.in_ok-slots.slots c.args.maps.now (λ host o. c.types_have_indices.ensures.hosts input host o)
    b.settled (c.in_ok-slots.ensures ∙ ap slot_numbers c.files.ensures.objects) c.requires.maps at in
    import_more (IsFunctionImport input (output_types input)) (function_imports input) k h c.function_import.result
    c.args.imports.now.items c.loop-host.imports.items c.push.new.self.items at
    (c.function_import.ensures input typed) c.in_ok-push.ensures.items c.loop-host.invariant

pub returns : goal.returns
returns c =
    let input = c.args.input.now in
    let k = c.loop-host.host-index in
    let hosts : c.functions-hosts.result.now ≡ function_imports input =
    c.functions-hosts.ensures ∙ ap (λ (s : Shared). s.functions) c.requires.bindings.shared in
    imports_done (IsFunctionImport input (output_types input)) (function_imports input) k
    c.args.imports.now.items c.loop-host.imports.items
    (subst (λ (hs : List HostImport). length hs ≤ k) hosts c.loop-host-test.false) c.loop-host.invariant
