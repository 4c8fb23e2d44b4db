use Rattle.wl_ctors.proofs.StepLaws.{adds_none, adds_one, adds_all}
use Rattle.wl_ctors.proofs.calls.push_calls.Goals as goal

pub loop-function-init : goal.loop-function-init
loop-function-init c = adds_none c.args.input.now c.args.calls.now.items

pub loop-function-preserved : goal.loop-function-preserved
loop-function-preserved c =
    adds_one c.args.input.now c.args.object c.init_funcs-function-items.result.now
    c.args.file.now.init_funcs c.loop-function.function-index _ c.args.calls.now.items
    c.loop-function.calls.items c.push.new.self.items c.init_call.result
    c.init_funcs-function-items.ensures c.loop-function-test.true c.loop-function.invariant
    c.init_call.ensures c.in_ok-push.ensures.items

pub returns : goal.returns
returns c =
    adds_all c.args.input.now c.args.object c.init_funcs-function-items.result.now
    c.args.file.now.init_funcs c.loop-function.function-index c.args.calls.now.items
    c.loop-function.calls.items c.init_funcs-function-items.ensures c.loop-function-test.false
    c.loop-function.invariant
