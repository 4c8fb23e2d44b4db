use Rattle.std.proofs.Common.{refl}
use Rattle.wl_plan.proofs.FixupLaws.{clear_of}
use Rattle.wl_plan.proofs.fixups.FixupSources.fixup.Goals as goal

pub returns-in-Err-clause-err : goal.returns-in-Err-clause-err
returns-in-Err-clause-err c =
    let answer = c.in-Err.ensures in
    record {
      base = answer.0;
      takes = answer.1;
      why = c.in-Err.error;
      fault = answer.2;
      told = c.refusal.ensures answer.0 answer.1;
    }

pub returns-clause-ok : goal.returns-clause-ok
returns-clause-ok c = record {
  object = refl;
  place = refl;
  unit = refl;
  position = c.requires.moved;
  ty = refl;
  to = c.in-Ok.ensures;
}

pub returns-clause-clear : goal.returns-clause-clear
returns-clause-clear c = clear_of c.args.self.now c.args.relocated.now c.in-Ok.to c.in-Ok.ensures
