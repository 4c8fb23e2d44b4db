use Rattle.std.proofs.Common.{◌<◌, ◌-◌, ℕ, sym, arith}
use Rattle.wl_ops.proofs.ShiftLaws.{none_tells, last_tells, nowhere}
use Rattle.wl_ops.proofs.rewriting.moved.Goals as goal

pub returns-then-count-eq0 : goal.returns-then-count-eq0
returns-then-count-eq0 c =
    sym (none_tells c.args.shifts.now c.args.field c.args.field nowhere (λ k lt. c.requires.point.1 k nowhere (omega (arith, c.if-count-eq0.true)) lt))

pub returns : goal.returns
returns c =
    let count : ℕ = c.args.count in
    let some : 0 < count = omega (arith, c.if-count-eq0.false) in
    sym (last_tells c.args.shifts.now (count - 1) c.args.field c.args.field nowhere (omega (arith, some, c.requires.bound))
    (λ k le. c.requires.point.0 k nowhere (omega arith) (omega (arith, le, some))) (λ k lt less. c.requires.point.1 k nowhere (omega (arith, lt, some)) less))
