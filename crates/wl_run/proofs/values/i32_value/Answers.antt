use Rattle.wl_run.proofs.ValueLaws.{no_word}
use Rattle.wl_run.proofs.values.i32_value.Goals as goal

pub returns-in_default : goal.returns-in_default
returns-in_default c = no_word c.args.text.now c.in_default.ensures
