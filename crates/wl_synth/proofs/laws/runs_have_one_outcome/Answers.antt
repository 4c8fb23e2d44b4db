use Rattle.std.proofs.Common.{List, ◌≡◌, ◌∙◌, sym, ap}
use Rattle.wl_ops.specs.declared.op.Op.{Op}
use Rattle.wl_synth.specs.Machine.{Going, Ended, go, entered}
use Rattle.wl_synth.proofs.laws.runs_have_one_outcome.Goals as goal

pub returns : goal.returns
returns c w results body s o other p q =
    let same = c.operators_are_one.ensures p.0 q.0 body p.1 q.1 in
    let both : Ended o ≡ Ended other = sym p.2 ∙ ap (λ (ops : List Op). go w (Going (entered results s)) ops) same ∙ q.2 in
    cc both
