use Rattle.wl_features.proofs.NameLaws.{found_at, none_next}
use Rattle.wl_features.proofs.checking.has_name.Goals as goal

pub returns-then-eq : goal.returns-then-eq
returns-then-eq c =
    found_at c.args.names.now c.args.name.now c.loop-one.one-index _ c.loop-one-test.true
    c.if-eq.ensures

pub loop-one-preserved : goal.loop-one-preserved
loop-one-preserved c =
    none_next c.args.names.now c.args.name.now c.loop-one.one-index _ c.loop-one-test.true
    c.if-eq.ensures c.loop-one.invariant
