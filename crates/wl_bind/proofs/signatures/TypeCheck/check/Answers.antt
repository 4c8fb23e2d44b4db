use Rattle.std.proofs.Common.{◌∙◌, sym}
use Rattle.wl_bind.proofs.MismatchLaws.{no_relocation, all_clear}
use Rattle.wl_bind.proofs.signatures.TypeCheck.check.Goals as goal
use Rattle.std.proofs.lemmas.Result.{on_ok_weaker}

pub returns-clause-clear : goal.returns-clause-clear
returns-clause-clear c =
    let input = c.args.self.now.input.now in
    on_ok_weaker c.check_objects.result (all_clear input (no_relocation input (sym c.requires ∙ c.in_default.is))) c.check_objects.ensures.clear
