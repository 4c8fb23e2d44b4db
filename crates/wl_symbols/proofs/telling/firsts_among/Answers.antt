use Rattle.std.proofs.Common.{◌∙◌}
use Rattle.wl_symbols.proofs.ToldLaws.{among_at}
use Rattle.wl_symbols.proofs.telling.firsts_among.Goals as goal

pub loop-bearer-preserved : goal.loop-bearer-preserved
loop-bearer-preserved c = c.with-firsts.ensures ∙ among_at c.args.bearers.now c.loop-bearer.bearer-index _ c.loop-bearer.firsts c.loop-bearer-test.true c.loop-bearer.invariant
