use Rattle.std.proofs.Common.{sym, subst, take}
use Rattle.wl_symbols.specs.Bearers.{found_in, Lists}
use Rattle.wl_symbols.proofs.IndexLaws.{one_more}
use Rattle.wl_symbols.proofs.BearerLaws.{lists_more}
use Rattle.wl_symbols.proofs.exchanging.group.Goals as goal

pub loop-entry-preserved : goal.loop-entry-preserved
loop-entry-preserved c =
    let k = c.loop-entry.entry-index in
    let x = c.entry-item.result in
    let more = one_more k c.args.entries.now x c.loop-entry-test.true c.entry-item.is in
    subst (Lists (found_in c.push.new.self.lists)) (sym more)
    (lists_more (found_in c.loop-entry.map.lists) (found_in c.push.new.self.lists) x (take k c.args.entries.now) c.loop-entry.invariant
    (rw (c.name.ensures, c.bearer.ensures) at c.in_ok-push.ensures))
