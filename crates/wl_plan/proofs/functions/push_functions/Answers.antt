use Rattle.std.proofs.Common.{◌≡◌, ◌+◌, length, arith}
use Rattle.wl_bind.specs.FunctionSpace.{functions_of}
use Rattle.wl_plan.specs.steps.Functions.{own_function_part}
use Rattle.wl_plan.proofs.FunctionLaws.{adds_if_some, adds_more, adds_none, adds_same, below_is, below_more, functions_below}
use Rattle.wl_plan.proofs.functions.push_functions.Goals as goal

pub loop-function-init : goal.loop-function-init
loop-function-init c = adds_none c.args.input.now c.args.functions.now.items

pub loop-function-preserved : goal.loop-function-preserved
loop-function-preserved c =
    let input = c.args.input.now in
    let i = c.args.object in
    let k = c.loop-function.function in
    let first = c.args.functions.now.items in
    let old = c.loop-function.functions.items in
    let new = c.push_if_some.new.functions.items in
    adds_same input _ (functions_below input i (k + 1)) first new (below_more input i k)
    (adds_more input (functions_below input i k) (own_function_part input i k) first old new
    c.loop-function.invariant
    (adds_if_some input (own_function_part input i k) c.kept_function.result old new c.kept_function.ensures
    c.in_ok-push_if_some.ensures))

pub returns : goal.returns
returns c =
    let input = c.args.input.now in
    let i = c.args.object in
    let k = c.loop-function.function in
    let n = c.num_defined_functions-function-end.ensures in
    let end : k ≡ length c.args.file.now.functions =
    omega (arith, n, c.loop-function-test.false, c.loop-function.auto.function-end) in
    adds_same input (functions_below input i k) (functions_of input i c.args.file.now) c.args.functions.now.items
    c.loop-function.functions.items (below_is input i c.args.file.now k end) c.loop-function.invariant
