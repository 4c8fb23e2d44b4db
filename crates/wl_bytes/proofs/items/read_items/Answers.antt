use Rattle.std.proofs.lemmas.Result.{err_from_is_err_and}
use Rattle.wl_bytes.specs.Chains.{times_after_at}
use Rattle.wl_bytes.proofs.Loops.{goes_on_after, ends_after, is_done_after}
use Rattle.wl_bytes.proofs.items.read_items.Goals as goal

pub returns-in_err-read : goal.returns-in_err-read
returns-in_err-read t c =
    let p = err_from_is_err_and c.from_residual-in_err-read.result c.from_residual-in_err-read.ensures.1 in
    rw (p.1, p.2) (ends_after t.T.Item.item_at t.T.Item.after c.loop.under c.in_err-read.field-0.0 c.loop.items.items c.args.count c.loop.counter c.loop.reader (times_after_at t.T.Item.item_at t.T.Item.after c.args.count c.args.under c.args.reader.now) c.loop-test.true c.in_err-read.ensures.value c.loop.invariant)

pub loop-preserved : goal.loop-preserved
loop-preserved t c =
    rw (c.in_ok-push.ensures.items, c.in_ok-read.ensures.next) (goes_on_after t.T.Item.item_at t.T.Item.after c.loop.under c.loop.items.items c.args.count c.loop.counter c.loop.reader c.in_ok-read.field-0 c.read.new.reader (times_after_at t.T.Item.item_at t.T.Item.after c.args.count c.args.under c.args.reader.now) c.loop-test.true c.in_ok-read.ensures.value c.loop.invariant)

pub returns : goal.returns
returns t c = is_done_after t.T.Item.item_at t.T.Item.after c.loop.under c.loop.items.items c.args.count c.loop.counter c.loop.reader (times_after_at t.T.Item.item_at t.T.Item.after c.args.count c.args.under c.args.reader.now) c.loop-test.false c.loop.invariant
