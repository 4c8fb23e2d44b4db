use Rattle.std.proofs.Common.{ℕ, length, arith}
use Rattle.std.proofs.lemmas.Result.{err_from_is_err_and}
use Rattle.wl_bind.specs.GlobalSpace.{GlobalEntry, GlobalOf, got_mem_part}
use Rattle.wl_bind.specs.Scan.{got_mem}
use Rattle.wl_bind.specs.declared.binding.GlobalTarget.TheVariants.{GotMem}
use Rattle.wl_linking.proofs.StepLaws.{refuses_memory}
use Rattle.wl_plan.specs.steps.Globals.{IsPartFault}
use Rattle.wl_plan.proofs.GlobalParts.{adds_made, adds_none, adds_upto, adds_same, refuses_start, refuses_upto}
use Rattle.wl_plan.proofs.globals.push_got_mem.Goals as goal

pub loop-place-init : goal.loop-place-init
loop-place-init c = adds_none c.args.sources.now c.args.globals.now.items

pub loop-place-preserved : goal.loop-place-preserved
loop-place-preserved c =
    let s = c.args.sources.now in
    let entry : ℕ → GlobalEntry = λ (k : ℕ). GlobalOf (GotMem k) in
    adds_upto s entry c.loop-place.place c.loop-place.invariant
    (adds_made s (GlobalOf (GotMem c.loop-place.place)) c.in_ok-start.start _ _ (λ m x. x) c.in_ok-start.ensures c.in_ok-push_made.ensures)

pub returns-in_err-start-clause-err : goal.returns-in_err-start-clause-err
returns-in_err-start-clause-err c =
    let p = err_from_is_err_and c.from_residual.result c.from_residual.ensures.1 in
    let s = c.args.sources.now in
    let entry : ℕ → GlobalEntry = λ (k : ℕ). GlobalOf (GotMem k) in
    rw (p.1, p.2)
    (refuses_upto s entry (length (got_mem s.book.now.input.now)) c.loop-place.place (omega arith)
    (refuses_start s (GlobalOf (GotMem c.loop-place.place)) c.in_err-start.field-0.0
    c.in_err-start.ensures))

pub returns-in_err-push_made-clause-err : goal.returns-in_err-push_made-clause-err
returns-in_err-push_made-clause-err c =
    let residual = c.from_residual-in_err-push_made in
    let p = err_from_is_err_and residual.result residual.ensures.1 in
    let s = c.args.sources.now in
    rw p.1 (refuses_memory (IsPartFault s (got_mem_part s.book.now.input.now)) p.0 p.2)

pub returns-clause-ok : goal.returns-clause-ok
returns-clause-ok c =
    let s = c.args.sources.now in
    let entry : ℕ → GlobalEntry = λ (k : ℕ). GlobalOf (GotMem k) in
    adds_same s entry c.loop-place.place (length (got_mem s.book.now.input.now)) (omega arith)
    c.loop-place.invariant
