use Rattle.std.proofs.Common.{◌≡◌, ◌≤◌, ◌<◌, ℕ, List, ◌∷◌, ◌+◌, [], drop, get_or, length, ◌∙◌, add-one, drop-cons, arith, length-drop}
use Rattle.std.proofs.lemmas.List.{nil_from_length}
use Rattle.std.proofs.lemmas.Result.{err_from_is_err_and}
use Rattle.wl_ops.specs.declared.table.Single.TheVariants.{Number}
use Rattle.wl_ops.specs.declared.table.Immediate.{Immediate}
use Rattle.wl_ops.specs.declared.table.Immediate.TheVariants.{One}
use Rattle.wl_ops.specs.Immediates.{immediate_at, immediates_at}
use Rattle.wl_ops.proofs.Pushing.{front_ok, front_fails, all_go_on, all_end, all_done}
use Rattle.wl_ops.proofs.immediates.read_immediates.Goals as goal

next : (is : List Immediate) (k : ℕ) → k < length is → drop k is ≡ get_or is k (One Number) ∷ drop (k + 1) is
next is k lt = rw add-one (drop-cons is k (One Number) lt)

none : (is : List Immediate) (k : ℕ) → length is ≤ k → drop k is ≡ []
none is k le = nil_from_length (drop k is) (omega (arith, length-drop k is))

pub returns-in_err-read_immediate-clause-value : goal.returns-in_err-read_immediate-clause-value
returns-in_err-read_immediate-clause-value c =
    let p = err_from_is_err_and c.from_residual.result c.from_residual.ensures.1 in
    let item : Immediate = get_or c.args.immediates.now c.loop-immediate.immediate-index (One Number) in
    rw (p.1, p.2) (all_end c.args.immediates.now c.loop-immediate.immediate-index item c.in_err-read_immediate.field-0.0 c.loop-immediate.args c.loop-immediate.reader (immediates_at c.args.immediates.now c.args.reader.now)
    (next c.args.immediates.now c.loop-immediate.immediate-index c.loop-immediate-test.true)
    (front_fails c.in_err-read_immediate.field-0.0 c.loop-immediate.args (immediate_at item c.loop-immediate.reader) c.in_err-read_immediate.ensures.value)
    c.loop-immediate.invariant.0)

pub loop-immediate-preserved : goal.loop-immediate-preserved
loop-immediate-preserved c =
    let item : Immediate = get_or c.args.immediates.now c.loop-immediate.immediate-index (One Number) in
    let more = front_ok c.loop-immediate.args c.read_immediate.new.args c.read_immediate.new.reader (immediate_at item c.loop-immediate.reader) c.in_ok-read_immediate.ensures.value in
    rw (← more.2) (
      all_go_on c.args.immediates.now c.loop-immediate.immediate-index item c.loop-immediate.args more.0 c.loop-immediate.reader c.read_immediate.new.reader (immediates_at c.args.immediates.now c.args.reader.now)
          (next c.args.immediates.now c.loop-immediate.immediate-index c.loop-immediate-test.true) more.1 c.loop-immediate.invariant.0,
      c.in_ok-read_immediate.ensures.end ∙ c.loop-immediate.invariant.1,
    )

pub returns-clause-value : goal.returns-clause-value
returns-clause-value c =
    all_done c.args.immediates.now c.loop-immediate.immediate-index c.loop-immediate.args c.loop-immediate.reader (immediates_at c.args.immediates.now c.args.reader.now)
    (none c.args.immediates.now c.loop-immediate.immediate-index c.loop-immediate-test.false) c.loop-immediate.invariant.0
