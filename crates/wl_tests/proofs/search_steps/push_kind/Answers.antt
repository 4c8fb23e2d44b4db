use Rattle.wl_tests.proofs.MarkLaws.{push_mark}
use Rattle.wl_tests.proofs.search_steps.push_kind.Goals as goal

pub loop-k-preserved : goal.loop-k-preserved
loop-k-preserved c =
    push_mark c.args.live.now _ _ _ c.args.object c.args.kind c.loop-k.k _ _ c.loop-k.invariant c.sibling_of.ensures c.is_live.ensures c.in_ok-push.ensures.items
