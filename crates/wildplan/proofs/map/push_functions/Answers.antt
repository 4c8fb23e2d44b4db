use Rattle.wildplan.proofs.MapLaws.{code_step}
use Rattle.wildplan.proofs.map.push_functions.Goals as goal

pub loop-i-preserved : goal.loop-i-preserved
loop-i-preserved c =
    code_step c.args.first c.loop-i.i c.args.bodies.now c.index-bodies-i.result c.loop-i.page c.args.page.now c.push_size.new.page c.entry_size.result
    c.loop-i-test.true c.index-bodies-i.is c.loop-i.invariant c.entry_size.ensures c.in_ok-push_size.ensures
