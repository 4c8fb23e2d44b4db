use Rattle.std.proofs.Common.{◌≡◌, ◌∙◌, ◌∷◌, ◌+◌, ℕ, ap, arith, drop, subst, sym, List, ◌++◌}
use Rattle.std.proofs.lemmas.Result.{err_from_is_err_and}
use Rattle.wl_bind.specs.steps.OwnIndices.{firsts_from, kept_count, own_firsts, space_length}
use Rattle.wl_bind.proofs.ListLaws.{drop_here}
use Rattle.wl_bind.proofs.OwnLaws.{firsts_more, kept_more}
use Rattle.wl_bind.proofs.NumberingLaws.{own_over, space_long}
use Rattle.wl_bind.proofs.own_indices.own_firsts.Goals as goal
use Rattle.wl_linking.specs.Object.{Object}

pub loop-object-init : goal.loop-object-init
loop-object-init c =
    let input = c.args.input.now in
    let long = space_long input c.args.own in
    let start = c.requires.start in (
      ap (λ (xs : List ℕ). xs ++ firsts_from input c.args.own c.args.start 0 input.link.objects) c.new-firsts.ensures.items
          ∙ ap (λ (n : ℕ). firsts_from input c.args.own n 0 input.link.objects) start,
      ap (λ (n : ℕ). n + kept_count input c.args.own 0 input.link.objects) start ∙ sym long,
      c.requires.few,
    )

pub returns-in_err-next-clause-err : goal.returns-in_err-next-clause-err
returns-in_err-next-clause-err c =
    let input = c.args.input.now in
    let os = input.link.objects in
    let own = c.args.own in
    let k = c.loop-object.object in
    let o = c.index-files-object.result in
    let files = c.as_slice-files.ensures.objects ∙ c.files.ensures.objects in
    let split = subst (λ (fs : List Object). drop k fs ≡ o ∷ drop (k + 1) fs) files
    (drop_here c.as_slice-files.result.now k o c.loop-object-test.true c.index-files-object.is) in
    let counted = c.loop-object.next + c.count_kept.result in
    let more : counted + kept_count input own (k + 1) (drop (k + 1) os) ≡ space_length input own =
    kept_more input own k c.loop-object.next counted (space_length input own) o (drop k os) (drop (k + 1) os) split
    (ap (λ (n : ℕ). c.loop-object.next + n) c.count_kept.ensures) c.loop-object.invariant.1 in
    let p = err_from_is_err_and c.from_residual-in_err-next.result c.from_residual-in_err-next.ensures.1 in
    rw (p.1, p.2) (own_over input own counted c.in_err-next.field-0.0 (omega (arith, more)) c.in_err-next.ensures.err)

pub loop-object-preserved : goal.loop-object-preserved
loop-object-preserved c =
    let input = c.args.input.now in
    let os = input.link.objects in
    let own = c.args.own in
    let k = c.loop-object.object in
    let next = c.loop-object.next in
    let o = c.index-files-object.result in
    let files = c.as_slice-files.ensures.objects ∙ c.files.ensures.objects in
    let split = subst (λ (fs : List Object). drop k fs ≡ o ∷ drop (k + 1) fs) files
    (drop_here c.as_slice-files.result.now k o c.loop-object-test.true c.index-files-object.is) in
    let later = c.in_ok-next.ensures.ok ∙ ap (λ (n : ℕ). next + n) c.count_kept.ensures in (
      firsts_more input own k next c.in_ok-next.next o (drop k os) (drop (k + 1) os) c.loop-object.firsts.items c.push.new.self.items
          (own_firsts input own) split c.in_ok-push.ensures.items later c.loop-object.invariant.0,
      kept_more input own k next c.in_ok-next.next (space_length input own) o (drop k os) (drop (k + 1) os)
          split later c.loop-object.invariant.1,
      c.in_ok-next.ensures.room,
    )
