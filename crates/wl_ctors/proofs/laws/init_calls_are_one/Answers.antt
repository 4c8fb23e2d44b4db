use Rattle.wl_ctors.proofs.OneLaws.{calls_one}
use Rattle.wl_ctors.proofs.laws.init_calls_are_one.Goals as goal

pub returns : goal.returns
returns c = calls_one c.entries_stand_once.ensures.functions
