use Rattle.std.proofs.Common.{◌∙◌, length, ap, arith}
use Rattle.wl_bind.specs.Shared.{Shared}
use Rattle.wl_exports.specs.Wrapped.{WrapperEntry}
use Rattle.wl_plan.proofs.WrapperLaws.{ShortTypes, body_more, bodies_done, no_wrapper_bodies, short_type, behind_hosts, called_type_in}
use Rattle.wl_plan.proofs.wrappers.push_wrapper_bodies.Goals as goal

pub loop-wrapper-init : goal.loop-wrapper-init
loop-wrapper-init c = no_wrapper_bodies c.args.input.now c.args.bodies.now.items

pub called_type-number-requires : goal.called_type-number-requires
called_type-number-requires c =
    let le = behind_hosts c.wrappers_call_functions.ensures.own c.args.input.now
    c.functions-hosts.result.now c.args.wrappers.now c.loop-wrapper.wrapper-index
    c.wrapper-item.result
    (c.functions-hosts.ensures ∙ ap (λ (s : Shared). s.functions) c.requires.bindings.shared)
    c.requires.wrappers c.loop-wrapper-test.true c.wrapper-item.is in
    omega (arith, le)

pub overflow_cast-parameters : goal.overflow_cast-parameters
overflow_cast-parameters c =
    let found = called_type_in c.wrappers_call_functions.ensures.own c.args.input.now
    c.args.functions.now c.functions-hosts.result.now c.args.wrappers.now
    c.loop-wrapper.wrapper-index c.wrapper-item.result c.called_type-number.result
    c.args.bindings.now.types c.requires.functions
    (c.functions-hosts.ensures ∙ ap (λ (s : Shared). s.functions) c.requires.bindings.shared)
    c.requires.wrappers c.loop-wrapper-test.true c.wrapper-item.is c.requires.bindings.types
    c.called_type-number.ensures in
    let short : ShortTypes = λ o n t whole here.
    let few = (c.types_are_short.ensures o n t whole here).0 in omega (arith, few) in
    let few = short_type short c.args.input.now found.called.is_wrapper.function
    found.called.typed.0 c.requires.bindings.settled.whole found.called.typed.1 in
    let counted = c.parameter_count-parameters.ensures found.called.typed.0 found.there in
    omega (arith, few, counted)

pub loop-wrapper-preserved : goal.loop-wrapper-preserved
loop-wrapper-preserved c =
    let input = c.args.input.now in
    let w = c.wrapper-item.result in
    let k = c.loop-wrapper.wrapper-index in
    let found = called_type_in c.wrappers_call_functions.ensures.own input c.args.functions.now
    c.functions-hosts.result.now c.args.wrappers.now k w c.called_type-number.result
    c.args.bindings.now.types c.requires.functions
    (c.functions-hosts.ensures ∙ ap (λ (s : Shared). s.functions) c.requires.bindings.shared)
    c.requires.wrappers c.loop-wrapper-test.true c.wrapper-item.is c.requires.bindings.types
    c.called_type-number.ensures in
    let made = c.in-Some.ensures input c.requires.bindings.indices in
    body_more input k (length c.functions-hosts.result.now) c.in-Some.constructors
    c.wrapper.inside.original c.parameter_count-parameters.result c.args.functions.now
    c.args.bodies.now.items c.loop-wrapper.bodies.items c.push_made.new.bodies.items found.entry w
    c.in_ok-body.body.items found.at found.called made
    (ap (λ (v : WrapperEntry). v.original) c.wrapper.view_is)
    (c.parameter_count-parameters.ensures found.called.typed.0 found.there) c.in_ok-body.ensures
    c.in_ok-push_made.ensures c.loop-wrapper.invariant

pub returns : goal.returns
returns c = λ placing are.
    bodies_done c.args.input.now placing c.loop-wrapper.wrapper-index c.args.bodies.now.items
    c.loop-wrapper.bodies.items c.args.wrappers.now are c.requires.wrappers c.loop-wrapper-test.false
    c.loop-wrapper.invariant
