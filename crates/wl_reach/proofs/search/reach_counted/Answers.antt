use Rattle.std.proofs.Common.{◌≡◌, ◌∙◌, ap, arith, replicate, false, take, sum_by}
use Rattle.std.proofs.lemmas.List.{take_all}
use Rattle.std.proofs.lemmas.List.Sums.{sum_by-take-le}
use Rattle.wl_reach.proofs.SearchLaws.{Rooted-none, Rooted-more, Rooted-all, Heads-more, Heads-all, Progress-reached, Search-bound, Search-spent, take-with_mark, steps_within, steps_more, cost}
use Rattle.wl_reach.proofs.search.reach_counted.Goals as goal

pub loop-root-init : goal.loop-root-init
loop-root-init g c = rw c.new-order.ensures.items (Rooted-none _ _ _ (c.in_ok-marks.ensures ∙ ap (λ n. replicate n false) c.len.ensures))

pub loop-root-preserved : goal.loop-root-preserved
loop-root-preserved g c = rw (c.in_ok-mark.ensures.marked, c.in_ok-mark.ensures.noted) (Rooted-more _ _ _ _ _ c.requires c.loop-root.invariant c.loop-root-test.true)

pub loop-done-init : goal.loop-done-init
loop-done-init g c = record { progress = Rooted-all _ _ _ _ _ c.loop-root.invariant c.loop-root-test.false; steps = omega arith }

pub returns-in_err-mark-2-clause-cost : goal.returns-in_err-mark-2-clause-cost
returns-in_err-mark-2-clause-cost g c =
    omega (arith, c.loop-next.invariant.steps, steps_within _ _ _ _ _ _ _ _ c.loop-next.invariant.heads c.loop-next-test.true)

pub loop-next-preserved : goal.loop-next-preserved
loop-next-preserved g c = record {
  heads = rw (c.in_ok-mark-2.ensures.marked, c.in_ok-mark-2.ensures.noted) (Heads-more _ _ _ _ _ _ _ _ c.loop-next.invariant.heads c.loop-next-test.true);
  steps =
      rw (c.in_ok-mark-2.ensures.noted, take-with_mark c.loop-next.marks c.loop-next.order.items _ c.loop-done.done (omega (arith, c.loop-next.invariant.heads.here)))
      (omega (arith, c.loop-next.invariant.steps));
}

pub loop-done-smaller : goal.loop-done-smaller
loop-done-smaller g c = omega (arith, Search-bound _ _ _ _ c.loop-done.invariant.progress.search)

pub loop-done-preserved : goal.loop-done-preserved
loop-done-preserved g c = record {
  progress = Heads-all _ _ _ _ _ _ _ _ c.loop-next.invariant.heads c.loop-next-test.false;
  steps = omega (arith, c.loop-next.invariant.steps, steps_more _ _ _ _ _ _ _ _ c.loop-next.invariant.heads (omega arith));
}

pub returns-clause-marked : goal.returns-clause-marked
returns-clause-marked g c = Progress-reached _ _ _ _ _ c.loop-done.invariant.progress (omega arith)

pub returns-clause-cost : goal.returns-clause-cost
returns-clause-cost g c =
    omega (arith, c.loop-done.invariant.steps, Search-spent _ _ _ _ c.loop-done.invariant.progress.search, sum_by-take-le (cost c.args.graph.now) c.loop-done.order.items c.loop-done.done)

pub returns-clause-steps : goal.returns-clause-steps
returns-clause-steps g c =
    let whole : take c.loop-done.done c.loop-done.order.items ≡ c.loop-done.order.items = take_all c.loop-done.done c.loop-done.order.items (omega arith) in
    omega (arith, c.loop-done.invariant.steps, c.loop-done.invariant.progress.search.spent, ap (sum_by (cost c.args.graph.now)) whole)
