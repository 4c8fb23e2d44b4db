use Rattle.std.proofs.Common.{◌≡◌, ◌∙◌, ◌==◌, true, false, List, arith, length, refl, sym, subst, vec_len}
use Rattle.wl_symbols.specs.KeptRelocations.{relocations_left}
use Rattle.wl_symbols.specs.declared.relocated.Relocated.{Relocated}
use Rattle.wl_plan.specs.BodySteps.{AreRewritten}
use Rattle.wl_plan.specs.steps.Positions.{AreKept, AddsMoved, goes_on, stays}
use Rattle.wl_plan.proofs.PositionLaws.{HasCome, all_done, one_goes_on, run_done, run_is_kept, stays_done}
use Rattle.wl_plan.proofs.positions.walk_fields.Goals as goal
use Rattle.wl_plan.proofs.positions.walk_fields.Goals.{then-not-goes_on+in_ok-push_run, else-not-goes_on, then-not-is_empty-via-then-not-is_empty, then-not-is_empty-via-else-not-is_empty+then-not-stays}

pub push_run-requires-clause-kept : goal.push_run-requires-clause-kept
push_run-requires-clause-kept c =
    let input = c.args.renumbering.now.input.now in
    let at = c.loop-relocated in
    subst (λ (run : List Relocated). AreKept input run) (sym c.as_slice-then-not-goes_on.ensures.value)
    (run_is_kept input c.args.renumbering.now.placing.now at.run.items
    (relocations_left at.relocated-iterator) at.moved.positions.items at.invariant.0)

pub push_run-requires-2-clause-kept : goal.push_run-requires-2-clause-kept
push_run-requires-2-clause-kept c =
    let input = c.args.renumbering.now.input.now in
    let at = c.loop-relocated in
    subst (λ (run : List Relocated). AreKept input run) (sym c.as_slice-2.ensures.value)
    (run_is_kept input c.args.renumbering.now.placing.now at.run.items
    (relocations_left at.relocated-iterator) at.moved.positions.items at.invariant.0)

pub loop-relocated-preserved : goal.loop-relocated-preserved
loop-relocated-preserved c =
    let input = c.args.renumbering.now.input.now in
    let g = c.args.renumbering.now.placing.now in
    let r = c.in-Some.relocated in
    let before = c.loop-relocated in
    let left = relocations_left before.relocated-iterator in
    let more = relocations_left c.next.new.self in
    let run = c.if-not-goes_on.run.items in
    let positions = c.if-not-goes_on.moved.positions.items in
    let at : HasCome input g run left positions × (goes_on run r ≡ true)
    × AreRewritten input g c.if-not-goes_on.moved.bodies.items =
    elim c.if-not-goes_on.branch [
      | then-not-goes_on+in_ok-push_run w ↦
          let adds : AddsMoved input g before.run.items before.moved.positions.items
          w.push_run.new.self.positions.items =
          subst (λ (rs : List Relocated).
          AddsMoved input g rs before.moved.positions.items w.push_run.new.self.positions.items)
          w.as_slice-then-not-goes_on.ensures.value w.in_ok-push_run.ensures.ok in
          rw (w.run-is, w.moved-is, w.clear.ensures.items) (
            run_done input g before.run.items left before.moved.positions.items
                w.push_run.new.self.positions.items before.invariant.0 adds,
            refl,
            w.in_ok-push_run.ensures.bodies,
          )
      | else-not-goes_on w ↦
          let on : goes_on before.run.items r ≡ true =
          rw c.as_slice.ensures.value at (sym w.if-not-goes_on.ensures) in
          rw (w.run-is, w.moved-is) (before.invariant.0, on, before.invariant.1)
    ] in
    let long : vec_len c.if-not-goes_on.run ≡ length run = omega (arith, c.if-not-goes_on.run.ok.0) in
    let none : (length run == 0) ≡ true =
    subst (λ n. (n == 0) ≡ true) long (sym c.is_empty.ensures ∙ c.if-not-is_empty.false) in (
      stays_done input g run left more r positions at.0 c.in-Some.ensures.steps none
          (sym c.stays.ensures ∙ c.if-not-stays.false),
      at.2,
    )

pub loop-relocated-preserved-in-loop-relocated : goal.loop-relocated-preserved-in-loop-relocated
loop-relocated-preserved-in-loop-relocated c =
    let input = c.args.renumbering.now.input.now in
    let g = c.args.renumbering.now.placing.now in
    let r = c.in-Some.relocated in
    let before = c.loop-relocated in
    let left = relocations_left before.relocated-iterator in
    let more = relocations_left c.next.new.self in
    let run = c.if-not-goes_on.run.items in
    let positions = c.if-not-goes_on.moved.positions.items in
    let at : HasCome input g run left positions × (goes_on run r ≡ true)
    × AreRewritten input g c.if-not-goes_on.moved.bodies.items =
    elim c.if-not-goes_on.branch [
      | then-not-goes_on+in_ok-push_run w ↦
          let adds : AddsMoved input g before.run.items before.moved.positions.items
          w.push_run.new.self.positions.items =
          subst (λ (rs : List Relocated).
          AddsMoved input g rs before.moved.positions.items w.push_run.new.self.positions.items)
          w.as_slice-then-not-goes_on.ensures.value w.in_ok-push_run.ensures.ok in
          rw (w.run-is, w.moved-is, w.clear.ensures.items) (
            run_done input g before.run.items left before.moved.positions.items
                w.push_run.new.self.positions.items before.invariant.0 adds,
            refl,
            w.in_ok-push_run.ensures.bodies,
          )
      | else-not-goes_on w ↦
          let on : goes_on before.run.items r ≡ true =
          rw c.as_slice.ensures.value at (sym w.if-not-goes_on.ensures) in
          rw (w.run-is, w.moved-is) (before.invariant.0, on, before.invariant.1)
    ] in
    let long : vec_len c.if-not-goes_on.run ≡ length run = omega (arith, c.if-not-goes_on.run.ok.0) in
    let moved : (length run == 0) ≡ true → stays input r ≡ false =
    elim c.then-not-is_empty.branch [
      | then-not-is_empty-via-then-not-is_empty w ↦ λ none.
          absurd (let e : false ≡ true = sym w.if-not-is_empty.true
          ∙ (c.is_empty.ensures ∙ subst (λ n. (n == 0) ≡ true) (sym long) none) in cc (e))
      | then-not-is_empty-via-else-not-is_empty+then-not-stays w ↦ λ none.
          sym w.stays.ensures ∙ w.if-not-stays.true
    ] in (
      one_goes_on input g run left more c.push.new.self.items r positions at.0
          c.in-Some.ensures.steps at.1 moved c.in_ok-push.ensures.items,
      at.2,
    )

pub returns-clause-positions : goal.returns-clause-positions
returns-clause-positions c =
    let input = c.args.renumbering.now.input.now in
    let g = c.args.renumbering.now.placing.now in
    let at = c.loop-relocated in
    let new = c.push_run-2.new.self.positions.items in
    let adds : AddsMoved input g at.run.items at.moved.positions.items new =
    subst (λ (rs : List Relocated). AddsMoved input g rs at.moved.positions.items new)
    c.as_slice-2.ensures.value c.in_ok-push_run-2.ensures.ok in
    all_done input g at.run.items (relocations_left at.relocated-iterator) at.moved.positions.items
    new at.invariant.0 c.in-None.ensures.steps.0 adds
