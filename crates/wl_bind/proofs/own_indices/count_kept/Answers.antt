use Rattle.std.proofs.Common.{◌≡◌, ◌∙◌, ◌≤◌, ◌+◌, ℕ, Bool, true, false, if◌then◌else◌, sym, ap, arith, subst}
use Rattle.wl_symbols.specs.Input.{Input, keeps}
use Rattle.wl_symbols.specs.Live.{Live, is_live}
use Rattle.wl_bind.specs.steps.OwnIndices.{own_unit, own_count}
use Rattle.wl_bind.proofs.OwnLaws.{passing, passing_more, passing_all}
use Rattle.wl_bind.proofs.own_indices.count_kept.Goals as goal
use Rattle.wl_bind.proofs.own_indices.count_kept.Goals.{then-is_live, else-is_live}

pub loop-number-preserved : goal.loop-number-preserved
loop-number-preserved c =
    let input : Input = c.args.input.now in
    let number = c.loop-number.number in
    let p : ℕ → Bool = λ k. keeps input c.args.object (own_unit c.args.own k) in
    let asked : c.is_live.result ≡ p number =
    c.is_live.ensures
    ∙ (ap (λ (l : Live). is_live l (record { object = c.args.object; unit = c.unit.result })) c.live.ensures.live
    ∙ ap (λ u. is_live input.live (record { object = c.args.object; unit = u })) c.unit.ensures) in
    let counted : (kept : ℕ) (b : Bool) → p number ≡ b → kept ≡ c.loop-number.kept + (if b then 1 else 0) → kept ≡ passing p (number + 1) =
    λ kept b is more. passing_more p number c.loop-number.kept kept b is c.loop-number.invariant.0 more in
    elim c.if-is_live.branch [
      | then-is_live w ↦ (
        counted c.if-is_live.kept true (sym asked ∙ w.if-is_live.true) w.kept-is,
        omega (arith, w.kept-is, c.loop-number.invariant.1),
      )
      | else-is_live w ↦ (
        counted c.if-is_live.kept false (sym asked ∙ w.if-is_live.false) (omega (arith, w.kept-is)),
        omega (arith, w.kept-is, c.loop-number.invariant.1),
      )
    ]

pub returns : goal.returns
returns c =
    let count = c.count-number-end.ensures.count in
    passing_all (λ k. keeps c.args.input.now c.args.object (own_unit c.args.own k))
    c.loop-number.kept c.loop-number.number (own_count c.args.own c.args.file.now) c.loop-number.invariant.0
    (subst (λ (n : ℕ). c.loop-number.number ≤ n) count c.loop-number.auto.number-end)
    (subst (λ (n : ℕ). n ≤ c.loop-number.number) count c.loop-number-test.false)
