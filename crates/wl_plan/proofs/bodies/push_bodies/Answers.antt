use Rattle.wl_plan.specs.steps.Functions.{own_function_part}
use Rattle.wl_plan.proofs.FunctionLaws.{functions_below, below_more}
use Rattle.wl_plan.proofs.GrowLaws.{adds_more, adds_same}
use Rattle.std.proofs.Common.{◌+◌, ◌++◌}
use Rattle.wl_plan.proofs.bodies.push_bodies.Goals as goal

pub loop-function-preserved : goal.loop-function-preserved
loop-function-preserved c =
    let input = c.args.renumbering.now.input.now in
    let g = c.args.renumbering.now.placing.now in
    let n = c.loop-function.function in
    let front = functions_below input c.args.object n in
    let own = own_function_part input c.args.object n in (
      adds_same input g (front ++ own) (functions_below input c.args.object (n + 1))
          c.args.bodies.now.items c.push_kept.new.bodies.items (below_more input c.args.object n)
          (adds_more input g front own c.args.bodies.now.items c.loop-function.bodies.items
          c.push_kept.new.bodies.items c.loop-function.invariant.0 c.in_ok-push_kept.ensures.ok),
      c.push_kept.ensures.rewritten,
    )
