use Rattle.std.proofs.Common.{◌≡◌, ◌<◌, refl, arith}
use Rattle.wl_load.specs.declared.stop.Stop.TheVariants.{Invalid}
use Rattle.wl_load.specs.Storage.{machine}
use Rattle.wl_load.proofs.RunLaws.{runs_to}
use Rattle.wl_load.proofs.InstructionLaws.{step_nowhere}
use Rattle.wl_load.proofs.running.run_steps.Goals as goal

pub returns-in-None : goal.returns-in-None
returns-in-None c =
    let p = c.args.program.now in
    let mid = machine c.loop-used.stack c.loop-used.store in
    let lt : c.loop-used.used < c.args.fuel = omega arith in
    rw (c.end_of.ensures, c.function.ensures, c.place-operator.ensures)
    (runs_to p c.loop-used.used c.args.fuel (machine c.args.stack.now c.args.store.now) mid Invalid c.loop-used.store lt c.loop-used.invariant.going refl (step_nowhere p mid c.in-None.ensures.none))

pub returns-in-Err : goal.returns-in-Err
returns-in-Err c =
    let lt : c.loop-used.used < c.args.fuel = omega arith in
    rw (c.end_of-in-Err.ensures, c.in-Some.ensures.function, c.place-operator.ensures)
    (runs_to c.args.program.now c.loop-used.used c.args.fuel (machine c.args.stack.now c.args.store.now) (machine c.loop-used.stack c.loop-used.store) c.in-Err.stop c.step.new.store lt c.loop-used.invariant.going c.in-Err.ensures.kept c.in-Err.ensures.does)

pub returns : goal.returns
returns c =
    let same : c.loop-used.used ≡ c.args.fuel = omega arith in
    (machine c.loop-used.stack c.loop-used.store, rw same at c.loop-used.invariant.going, refl)
