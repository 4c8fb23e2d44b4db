use Rattle.std.proofs.Common.{◌≡◌, ap, subst}
use Rattle.wl_load.specs.Images.{LoadedImage}
use Rattle.wl_load.specs.declared.program.Program.{Program}
use Rattle.wl_load.specs.declared.run_end.RunEnd.TheVariants.{Done}
use Rattle.wl_run.specs.Turns.{EndsSo, left}
use Rattle.wl_run.proofs.turns.run_in_turn.Goals as goal

pub returns-in-Done : goal.returns-in-Done
returns-in-Done c =
    let now = c.run-2.new.self in
    let then = c.run-in-Done.new.self.store in
    let kept : now ≡ left c.args.image.now now.store =
    ap (λ (p : Program). record { program = p; store = now.store }) c.run-2.ensures.kept in
    rw c.in-Some.is
    (Done c.in-Done.field-0, now.store, c.in-Done.ensures.runs, (then, subst (λ (i : LoadedImage). EndsSo i c.args.function c.run-in-Done.result then) kept c.run-in-Done.ensures.runs))
