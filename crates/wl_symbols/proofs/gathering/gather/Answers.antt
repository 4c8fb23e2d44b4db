use Rattle.std.proofs.Common.{sym}
use Rattle.wl_symbols.proofs.AdditionLaws.{symbols_more}
use Rattle.wl_symbols.proofs.gathering.gather.Goals as goal

pub loop-i-preserved : goal.loop-i-preserved
loop-i-preserved c =
    rw (c.in_ok-push_entry.ensures, c.loop-i.invariant) (sym (symbols_more c.args.object c.loop-i.i c.symbols-symbols.result.now c.index-symbols-i.result c.loop-i-test.true c.index-symbols-i.is))
