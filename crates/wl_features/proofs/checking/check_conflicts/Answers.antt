use Rattle.wl_features.proofs.DisallowingLaws.{free_more}
use Rattle.wl_features.proofs.NameLaws.{name_at}
use Rattle.wl_features.proofs.TakenLaws.{bytes_of}
use Rattle.wl_features.proofs.checking.check_conflicts.Goals as goal

pub loop-name-preserved : goal.loop-name-preserved
loop-name-preserved c =
    free_more c.args.disallowed.now (bytes_of c.args.names.now) c.loop-name.name-index _
    c.loop-name.invariant
    (name_at c.args.names.now c.loop-name.name-index _ c.loop-name-test.true) c.in_default.ensures
