use Rattle.std.proofs.Common.{◌≡◌, eqb, length, false, sym, ◌∙◌}
use Rattle.std.proofs.lemmas.Result.{err_from_is_err_and}
use Rattle.wl_custom.proofs.LinkingLaws.{smaller, reads_more, reads_fault}
use Rattle.wl_custom.proofs.linking.read_subsections.Goals as goal

pub returns-in_err-subsection : goal.returns-in_err-subsection
returns-in_err-subsection c =
    let p = err_from_is_err_and c.from_residual.result c.from_residual.ensures.1 in
    let some : eqb (length c.loop-alloc.reader.rest) 0 ≡ false = rw (← c.rest.ensures.value) (sym c.is_empty.ensures ∙ c.loop-alloc-test.true) in
    rw (p.1, p.2) (reads_fault c.args.base c.args.reader.now c.loop-alloc.reader c.loop-alloc.seen c.loop-alloc.linking c.in_err-subsection.field-0.0 c.loop-alloc.invariant.0 some c.in_err-subsection.ensures.value)

pub loop-alloc-smaller : goal.loop-alloc-smaller
loop-alloc-smaller c = smaller c.args.base c.loop-alloc.seen c.loop-alloc.reader c.read_subsection.new.reader c.in_ok-subsection.subsection c.in_ok-subsection.ensures.value

pub loop-alloc-preserved : goal.loop-alloc-preserved
loop-alloc-preserved c =
    rw (c.in_ok-add.ensures, c.seen_after-seen.ensures) (reads_more c.args.base c.args.reader.now c.loop-alloc.reader c.read_subsection.new.reader c.loop-alloc.seen c.loop-alloc.linking c.in_ok-subsection.subsection c.loop-alloc.invariant.0 c.in_ok-subsection.ensures.value, c.in_ok-subsection.ensures.end ∙ c.loop-alloc.invariant.1)
