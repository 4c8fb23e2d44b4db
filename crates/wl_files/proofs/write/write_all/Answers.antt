use Rattle.std.proofs.Common.{rules, ◌≤◌, ◌∙◌, refl, length, length-drop, arith}
use Rattle.wl_files.proofs.Writing.{writes_more, part_written, on_err}
use Rattle.wl_files.proofs.write.write_all.Goals as goal

pub loop-rest-preserved : goal.loop-rest-preserved
loop-rest-preserved g c = rw c.split_at.ensures.back (record {
  written = writes_more _ (g.S.Sink.state c.loop-rest.sink) _ _ c.loop-rest.rest.now c.in_ok-count.count c.loop-rest.invariant.written c.in_ok-count.ensures.cause.later c.in_ok-count.ensures.taken;
  clean = c.in_ok-count.ensures.clean ∙ c.loop-rest.invariant.clean;
  calm = λ takes.
      let before = c.loop-rest.invariant.calm takes in
      let within : length c.loop-rest.rest.now ≤ length c.loop-rest.rest.now = omega arith in
      let after = c.in_ok-count.ensures.calm (length c.loop-rest.rest.now) before.0 within in
      (rw length-drop after.1, c.in_ok-count.ensures.clean ∙ before.1);
})

pub returns-in_err-count-clause-part : goal.returns-in_err-count-clause-part
returns-in_err-count-clause-part g c = on_err c.from_residual.result
    (part_written _ (g.S.Sink.state c.loop-rest.sink) (g.S.Sink.state c.write_some.new.sink) _ c.loop-rest.rest.now c.loop-rest.invariant.written (search rules) c.in_err-count.ensures.taken)

pub returns-in_err-count-clause-calm : goal.returns-in_err-count-clause-calm
returns-in_err-count-clause-calm g c = λ takes.
    let before = c.loop-rest.invariant.calm takes in
    let within : length c.loop-rest.rest.now ≤ length c.loop-rest.rest.now = omega arith in
    absurd (c.in_err-count.ensures.calm (length c.loop-rest.rest.now) before.0 within)

pub returns-clause-calm : goal.returns-clause-calm
returns-clause-calm g c = λ takes. (refl, (c.loop-rest.invariant.calm takes).1)
