use Rattle.std.proofs.lemmas.Result.{err_from_is_err_and}
use Rattle.wildplan.proofs.ReplayLaws.{ReplacesOn, turn_some, turn_none, turn_refused}
use Rattle.wl_plan.specs.Session.{Held}
use Rattle.std.proofs.Common.{◌+◌, drop, sym, subst}
use Rattle.wildplan.proofs.replacing.replace_all.Goals.{in-Some+in_ok-replace, in_default}
use Rattle.wildplan.proofs.replacing.replace_all.Goals as goal

pub returns-in_err-replace-clause-err : goal.returns-in_err-replace-clause-err
returns-in_err-replace-clause-err c =
    let p = err_from_is_err_and c.from_residual.result c.from_residual.ensures.1 in
    rw (p.1, p.2) (turn_refused c.args.session.now c.loop-place.session c.args.replacements.now c.args.contents.now c.loop-place.place _ c.in-Some.bytes.now c.in_err-replace.field-0.0 c.loop-place-test.true c.in-Some.ensures.bytes c.loop-place.invariant c.in_err-replace.ensures.err)

pub loop-place-preserved : goal.loop-place-preserved
loop-place-preserved c =
    let rs = c.args.replacements.now in
    let contents = c.args.contents.now in
    let place = c.loop-place.place in
    elim c.match-get.branch [
      | in-Some+in_ok-replace w ↦
          subst (λ (now : Held). ReplacesOn c.args.session.now now rs (drop (place + 1) rs) contents (drop (place + 1) contents)) (sym w.session-is)
          (turn_some c.args.session.now c.loop-place.session w.replace.new.self rs contents place _ w.in-Some.bytes.now c.loop-place-test.true w.in-Some.ensures.bytes c.loop-place.invariant w.in_ok-replace.ensures.sound w.in_ok-replace.ensures.replaced)
      | in_default w ↦
          subst (λ (now : Held). ReplacesOn c.args.session.now now rs (drop (place + 1) rs) contents (drop (place + 1) contents)) (sym w.session-is)
          (turn_none c.args.session.now c.loop-place.session rs contents place c.loop-place-test.true w.in_default.ensures.bytes c.loop-place.invariant)
    ]
