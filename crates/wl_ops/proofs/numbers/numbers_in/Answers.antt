use Rattle.std.proofs.Common.{◌≡◌, eqb, length, true, false, sym, ◌∙◌, [], refl}
use Rattle.std.proofs.lemmas.Bool.{eqb-true}
use Rattle.std.proofs.lemmas.List.{nil_from_length}
use Rattle.std.proofs.lemmas.Result.{err_from_is_err_and}
use Rattle.wl_bytes.proofs.GrammarLaws.{take_nothing}
use Rattle.wl_ops.specs.Numbers.{IsMarkedOp}
use Rattle.wl_ops.proofs.NumberLaws.{numbers_stop, numbers_end, read_more, read_less}
use Rattle.wl_ops.proofs.numbers.numbers_in.Goals as goal

pub loop-alloc-init : goal.loop-alloc-init
loop-alloc-init c = ([], take_nothing IsMarkedOp c.args.reader.now, refl, c.new-numbers.ensures.items)

pub returns-in_err-marked : goal.returns-in_err-marked
returns-in_err-marked c =
    let p = err_from_is_err_and c.from_residual.result c.from_residual.ensures.1 in
    let some : eqb (length c.loop-alloc.reader.rest) 0 ≡ false = rw (← c.rest.ensures.value) (sym c.is_empty.ensures ∙ c.loop-alloc-test.true) in
    rw (p.1, p.2) (numbers_stop c.loop-alloc.invariant.0 c.args.reader.now c.loop-alloc.reader c.in_err-marked.field-0.0 c.loop-alloc.invariant.1 some c.in_err-marked.ensures.value)

pub loop-alloc-smaller : goal.loop-alloc-smaller
loop-alloc-smaller c = read_less c.in_ok-marked.marked c.loop-alloc.reader c.read_marked.new.reader c.in_ok-marked.ensures.value

pub loop-alloc-smaller-in_ok-keep : goal.loop-alloc-smaller-in_ok-keep
loop-alloc-smaller-in_ok-keep c = read_less c.in_ok-marked.marked c.loop-alloc.reader c.read_marked.new.reader c.in_ok-marked.ensures.value

pub loop-alloc-preserved : goal.loop-alloc-preserved
loop-alloc-preserved c = read_more c.loop-alloc.invariant.0 c.in_ok-marked.marked c.loop-alloc.numbers.items c.keep.new.numbers.items c.args.reader.now c.loop-alloc.reader c.read_marked.new.reader c.loop-alloc.invariant.1 c.in_ok-marked.ensures.value c.loop-alloc.invariant.3 c.in_ok-keep.ensures

pub loop-alloc-preserved-in_ok-keep : goal.loop-alloc-preserved-in_ok-keep
loop-alloc-preserved-in_ok-keep c = read_more c.loop-alloc.invariant.0 c.in_ok-marked.marked c.loop-alloc.numbers.items c.keep.new.numbers.items c.args.reader.now c.loop-alloc.reader c.read_marked.new.reader c.loop-alloc.invariant.1 c.in_ok-marked.ensures.value c.loop-alloc.invariant.3 c.in_ok-keep.ensures

pub returns-then-is_ended : goal.returns-then-is_ended
returns-then-is_ended c =
    let none : eqb (length c.loop-alloc.reader.rest) 0 ≡ true = rw (← c.rest.ensures.value) (sym c.is_empty.ensures ∙ c.loop-alloc-test.false) in
    (c.loop-alloc.invariant.0, c.loop-alloc.reader, c.loop-alloc.invariant.1, nil_from_length c.loop-alloc.reader.rest (eqb-true (length c.loop-alloc.reader.rest) 0 none), c.loop-alloc.invariant.2 ∙ c.if-is_ended.true, c.loop-alloc.invariant.3)

pub returns-else-is_ended : goal.returns-else-is_ended
returns-else-is_ended c =
    let none : eqb (length c.loop-alloc.reader.rest) 0 ≡ true = rw (← c.rest.ensures.value) (sym c.is_empty.ensures ∙ c.loop-alloc-test.false) in
    numbers_end c.loop-alloc.invariant.0 c.args.reader.now c.loop-alloc.reader false c.loop-alloc.invariant.1 none (c.loop-alloc.invariant.2 ∙ c.if-is_ended.false)
