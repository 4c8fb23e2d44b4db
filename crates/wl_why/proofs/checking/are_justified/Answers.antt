use Rattle.std.proofs.Common.{◌∙◌, sym, refl, arith}
use Rattle.std.proofs.lemmas.Bool.{false≢true}
use Rattle.wl_why.proofs.CheckLaws.{justified_more, justified_all, unmarked_step, behind_step}
use Rattle.wl_why.proofs.checking.are_justified.Goals as goal
use Rattle.wl_why.proofs.checking.are_justified.Goals.{then-not-get-via-then-not-get, then-not-get-via-else-not-get+then-not-is_behind}

pub returns-then-not-get : goal.returns-then-not-get
returns-then-not-get c = (
  λ f. absurd (false≢true f),
  λ just.
      elim c.then-not-get.branch [
        | then-not-get-via-then-not-get w ↦ absurd (unmarked_step c.args.steps.now c.args.marks.now c.loop-i.i c.loop-i-test.true (sym c.get.ensures ∙ w.if-not-get.true) just)
        | then-not-get-via-else-not-get+then-not-is_behind w ↦ absurd (false≢true (sym w.if-not-is_behind.true ∙ w.is_behind.ensures.1 (behind_step c.args.steps.now c.args.marks.now c.loop-i.i c.loop-i-test.true just)))
      ],
)

pub loop-i-preserved : goal.loop-i-preserved
loop-i-preserved c =
    justified_more c.args.steps.now c.args.marks.now c.loop-i.i c.loop-i-test.true c.loop-i.invariant
    (sym c.get.ensures ∙ c.if-not-get.false) (c.is_behind.ensures.0 c.if-not-is_behind.false)

pub returns : goal.returns
returns c = (λ t. justified_all c.args.steps.now c.args.marks.now c.loop-i.i c.loop-i.invariant (omega arith), λ just. refl)
