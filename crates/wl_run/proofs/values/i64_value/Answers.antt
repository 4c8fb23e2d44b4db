use Rattle.wl_run.proofs.ValueLaws.{no_long}
use Rattle.wl_run.proofs.values.i64_value.Goals as goal

pub returns-in_default : goal.returns-in_default
returns-in_default c = no_long c.args.text.now c.in_default.ensures
