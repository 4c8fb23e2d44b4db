use Rattle.std.proofs.Common.{◌≡◌, ◌+◌, ◌-◌, length, sum_by, take}
use Rattle.wl_reach.proofs.SearchLaws.{Rooted, Progress, Heads, cost}
use Rattle.wl_reach.proofs.search.reach_counted.Given as goal

abbrev pub invariant-loop-root : goal.invariant-loop-root
invariant-loop-root g l = Rooted l.graph l.roots l.marks l.order.items l.root-index

abbrev pub invariant-loop-done : goal.invariant-loop-done
invariant-loop-done g l = record {
  progress : Progress l.graph l.roots l.marks l.order.items l.done;
  steps : l.steps ≡ l.fn.steps + sum_by (cost l.graph) (take l.done l.order.items);
}

abbrev pub invariant-loop-next : goal.invariant-loop-next
invariant-loop-next g l = record {
  heads : Heads l.graph l.roots l.marks l.order.items l.done l.node l.next-items l.next-index;
  steps : l.steps ≡ l.fn.steps + sum_by (cost l.graph) (take l.done l.order.items) + 1 + l.next-index;
}

abbrev pub decreases-loop-done : goal.decreases-loop-done
decreases-loop-done g l = length l.graph + sum_by length l.graph - l.done
