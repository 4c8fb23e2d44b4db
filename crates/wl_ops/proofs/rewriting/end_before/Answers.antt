use Rattle.std.proofs.Common.{◌∙◌, sym, arith, leb-true}
use Rattle.std.proofs.lemmas.Bool.{ltb-true}
use Rattle.wl_ops.specs.declared.rewriting.Shift.{Shift}
use Rattle.wl_ops.proofs.ShiftLaws.{ends_parted}
use Rattle.wl_ops.proofs.rewriting.end_before.Goals.{then-count-shifts+then-count-eq0, then-count-shifts+else-count-eq0, else-count-shifts}
use Rattle.wl_ops.proofs.rewriting.end_before.Goals as goal

pub returns-else-count-shifts-2-clause-point : goal.returns-else-count-shifts-2-clause-point
returns-else-count-shifts-2-clause-point c =
    let ss = c.args.shifts.now in
    let x : Shift = record { old_end = 0; new_end = 0 } in
    elim c.if-count-shifts.branch [
      | then-count-shifts+then-count-eq0 w ↦ λ lt.
          ends_parted ss c.args.place c.args.count x c.requires w.if-count-shifts.true
          (λ some. absurd (omega (arith, w.if-count-eq0.true, some))) (λ _. ltb-true _ _ lt)
      | then-count-shifts+else-count-eq0 w ↦ λ lt.
          ends_parted ss c.args.place c.args.count x c.requires w.if-count-shifts.true
          (λ _. leb-true _ _ (sym w.value-is ∙ c.if-shifts-count.true)) (λ _. ltb-true _ _ lt)
      | else-count-shifts w ↦
          absurd
          (omega
          (arith, w.if-count-shifts.false, leb-true _ _ (sym w.value-is ∙ c.if-shifts-count.true)))
    ]
