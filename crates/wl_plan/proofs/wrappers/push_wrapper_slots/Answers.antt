use Rattle.std.proofs.Common.{◌∙◌, ◌++◌, List, ap, map, sym}
use Rattle.std.proofs.lemmas.List.{append-nil, take_all}
use Rattle.wl_index.specs.declared.index.TheConstants.{WASM_DEAD_INDEX}
use Rattle.wl_exports.specs.Wrapped.{WrapperEntry}
use Rattle.wl_lists.proofs.Places.{item_at}
use Rattle.wl_plan.proofs.WrapperLaws.{dead_more}
use Rattle.wl_plan.proofs.wrappers.push_wrapper_slots.Goals as goal

pub loop-wrapper-init : goal.loop-wrapper-init
loop-wrapper-init c = sym (append-nil c.args.slots.now)

pub loop-wrapper-preserved : goal.loop-wrapper-preserved
loop-wrapper-preserved c =
    let ws = c.args.wrappers.now in
    let k = c.loop-wrapper._wrapper-index in
    let w = c._wrapper-item.result in
    let at = item_at ws k w c.loop-wrapper-test.true c._wrapper-item.is in
    dead_more ws k w c.args.slots.now c.loop-wrapper.slots c.push.new.self at c.loop-wrapper.invariant
    c.in_ok-push.ensures.ok

pub returns : goal.returns
returns c =
    let ws = c.args.wrappers.now in
    let all = take_all c.loop-wrapper._wrapper-index ws c.loop-wrapper-test.false in
    c.loop-wrapper.invariant
    ∙ ap (λ (vs : List WrapperEntry). c.args.slots.now ++ map (λ (w : WrapperEntry). WASM_DEAD_INDEX) vs) all
