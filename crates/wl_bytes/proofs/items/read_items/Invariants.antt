use Rattle.std.proofs.Common.{◌≡◌, ◌-◌}
use Rattle.wl_bytes.specs.Chains.{times_after_at}
use Rattle.wl_bytes.proofs.Loops.{with_front}
use Rattle.wl_bytes.proofs.items.read_items.Given as goal

abbrev pub invariant-loop : goal.invariant-loop
invariant-loop t l = with_front l.items.items (times_after_at t.T.Item.item_at t.T.Item.after (l.count - l.counter) l.under l.reader) ≡ times_after_at t.T.Item.item_at t.T.Item.after l.count l.fn.under l.fn.reader
