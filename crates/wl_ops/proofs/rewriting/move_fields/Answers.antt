use Rattle.std.proofs.Common.{◌<◌, ℕ, get_or, length, sym, arith}
use Rattle.std.proofs.lemmas.List.Edits.{map_over_more}
use Rattle.std.proofs.lemmas.Grind.{get_or_default_zero}
use Rattle.wl_ops.specs.Rewriting.{shifted}
use Rattle.wl_ops.proofs.rewriting.move_fields.Goals as goal

pub loop-i-preserved : goal.loop-i-preserved
loop-i-preserved c =
    let x : ℕ = get_or c.loop-i.fields c.loop-i.i 0 in
    let within : c.loop-i.i < length c.loop-i.fields = omega (arith, c.loop-i.auto.fields, c.loop-i-test.true) in
    rw c.moved.ensures (map_over_more (λ (p : ℕ). shifted c.args.shifts.now p p) c.args.fields.now c.loop-i.fields c.loop-i.i x c.loop-i-test.true c.loop-i.invariant (sym (get_or_default_zero c.loop-i.fields c.loop-i.i x within)))
