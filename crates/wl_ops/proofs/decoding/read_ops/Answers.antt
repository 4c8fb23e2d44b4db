use Rattle.std.proofs.Common.{◌≡◌, eqb, length, true, false, sym, ◌∙◌}
use Rattle.std.proofs.lemmas.Result.{err_from_is_err_and}
use Rattle.wl_ops.specs.Operators.{IsTaken, OpFault, op_at}
use Rattle.wl_ops.proofs.OpLaws.{op_reading}
use Rattle.wl_ops.proofs.RestLaws.{shortens, one_more}
use Rattle.wl_ops.proofs.DecodeLaws.{are_ops, ended-push, stops_so, ends_so}
use Rattle.wl_ops.proofs.decoding.read_ops.Goals as goal

pub returns-in_err-op : goal.returns-in_err-op
returns-in_err-op c =
    let p = err_from_is_err_and c.from_residual.result c.from_residual.ensures.1 in
    let some : eqb (length c.loop-alloc.reader.rest) 0 ≡ false = rw (← c.rest.ensures.value) (sym c.is_empty.ensures ∙ c.loop-alloc-test.true) in
    rw (p.1, p.2) (stops_so c.loop-alloc.ops.items c.args.reader.now c.loop-alloc.reader c.in_err-op.field-0.0 c.loop-alloc.invariant.0 some c.in_err-op.ensures.value)

pub loop-alloc-smaller : goal.loop-alloc-smaller
loop-alloc-smaller c = shortens IsTaken OpFault op_at are_ops c.in_ok-op.op c.loop-alloc.reader c.read_op.new.reader (op_reading.found c.loop-alloc.reader c.in_ok-op.op c.read_op.new.reader c.in_ok-op.ensures.value)

pub loop-alloc-preserved : goal.loop-alloc-preserved
loop-alloc-preserved c =
    let t = op_reading.found c.loop-alloc.reader c.in_ok-op.op c.read_op.new.reader c.in_ok-op.ensures.value in
    rw c.in_ok-push.ensures.items (
      one_more IsTaken c.loop-alloc.ops.items c.in_ok-op.op c.args.reader.now c.loop-alloc.reader c.read_op.new.reader c.loop-alloc.invariant.0 t,
      ended-push c.loop-alloc.ops.items c.in_ok-op.op,
    )

pub returns-then-is_ended : goal.returns-then-is_ended
returns-then-is_ended c =
    let none : eqb (length c.loop-alloc.reader.rest) 0 ≡ true = rw (← c.rest.ensures.value) (sym c.is_empty.ensures ∙ c.loop-alloc-test.false) in
    ends_so c.loop-alloc.ops.items c.args.reader.now c.loop-alloc.reader true c.loop-alloc.invariant.0 none (c.loop-alloc.invariant.1 ∙ c.if-is_ended.true)

pub returns-else-is_ended : goal.returns-else-is_ended
returns-else-is_ended c =
    let none : eqb (length c.loop-alloc.reader.rest) 0 ≡ true = rw (← c.rest.ensures.value) (sym c.is_empty.ensures ∙ c.loop-alloc-test.false) in
    ends_so c.loop-alloc.ops.items c.args.reader.now c.loop-alloc.reader false c.loop-alloc.invariant.0 none (c.loop-alloc.invariant.1 ∙ c.if-is_ended.false)
