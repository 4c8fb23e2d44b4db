use Rattle.std.proofs.Common.{◌≡◌, ◌-◌, List, Some, slice_get, ap, subst, sym, arith}
use Rattle.wl_bind.specs.OutputTypes.{output_types}
use Rattle.wl_exports.specs.Wrapped.{WrapperEntry}
use Rattle.wl_plan.specs.Functions.{AreOutputFunctions}
use Rattle.wl_plan.specs.Origins.{PlannedFunction}
use Rattle.wl_lists.proofs.Places.{item_at}
use Rattle.wl_plan.proofs.WrapperLaws.{called_now, no_wrappers, wrapper_more, wrappers_done}
use Rattle.wl_plan.proofs.wrappers.with_wrappers.Goals as goal

pub loop-wrapper-init : goal.loop-wrapper-init
loop-wrapper-init c = no_wrappers c.args.input.now c.args.own.items

pub called_type-type_index-requires : goal.called_type-type_index-requires
called_type-type_index-requires c =
    let w = c.wrapper-item.result in
    let at = item_at c.args.wrappers.now c.loop-wrapper.wrapper-index w c.loop-wrapper-test.true
    c.wrapper-item.is in
    let le = c.wrappers_call_functions.ensures.own c.args.input.now c.args.wrappers.now
    c.loop-wrapper.wrapper-index w c.requires.wrappers at in
    omega (arith, le, c.requires.hosts)

pub loop-wrapper-preserved : goal.loop-wrapper-preserved
loop-wrapper-preserved c =
    let input = c.args.input.now in
    let k = c.loop-wrapper.wrapper-index in
    let w = c.wrapper-item.result in
    let old = c.loop-wrapper.functions.items in
    let at = item_at c.args.wrappers.now k w c.loop-wrapper-test.true c.wrapper-item.is in
    let le = c.wrappers_call_functions.ensures.own input c.args.wrappers.now k w c.requires.wrappers at in
    let found = called_now input k c.args.hosts c.args.own.items old c.args.wrappers.now w
    c.requires.own c.requires.hosts le c.requires.wrappers at c.loop-wrapper.invariant in
    let slice : c.as_slice.result.now ≡ old = c.as_slice.ensures.value in
    let here = subst (λ (fs : List PlannedFunction). slice_get fs (w.original - c.args.hosts) ≡ Some found.2.called) (sym slice)
    found.2.at in
    wrapper_more input k c.args.hosts c.called_type-type_index.result c.wrapper.inside.name.now
    c.args.own.items old c.push.new.self.items found.0 w found.1 found.2
    (c.called_type-type_index.ensures found.2.called here)
    (ap (λ (v : WrapperEntry). v.name) c.wrapper.view_is) c.in_ok-push.ensures.items
    c.loop-wrapper.invariant

pub returns : goal.returns
returns c =
    subst (λ (fs : List PlannedFunction).
    AreOutputFunctions c.args.input.now (output_types c.args.input.now) fs) (sym c.new.ensures)
    (wrappers_done c.args.input.now c.loop-wrapper.wrapper-index c.args.own.items
    c.loop-wrapper.functions.items c.args.wrappers.now c.requires.own c.requires.wrappers
    c.loop-wrapper-test.false c.loop-wrapper.invariant)
