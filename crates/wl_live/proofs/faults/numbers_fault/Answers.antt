use Rattle.std.proofs.Common.{◌≡◌, get_or, take, subst, sym, List}
use Rattle.std.proofs.lemmas.List.{take_all, get_or_default}
use Rattle.std.proofs.lemmas.List.Elements.{Contains-get_or}
use Rattle.wl_ops.specs.declared.op.DataIndexImm.{DataIndexImm}
use Rattle.wl_live.specs.Faults.{HasSegmentNumberFault}
use Rattle.wl_live.proofs.FaultLaws.{number_fault-more}
use Rattle.wl_live.proofs.faults.numbers_fault.Goals as goal

pub number_fault-requires : goal.number_fault-requires
number_fault-requires c = c.requires _ (Contains-get_or _ _ _ c.loop-number-test.true)

pub loop-number-preserved : goal.loop-number-preserved
loop-number-preserved c =
    let ns = c.args.numbers.now in
    let k = c.loop-number.number-index in
    let none : DataIndexImm = record { offset = 0; len = 0; index = 0 } in
    let n : DataIndexImm = get_or ns k none in
    number_fault-more c.args.file.now c.args.body.now ns k n c.loop-number.invariant c.loop-number-test.true (get_or_default ns k n none c.loop-number-test.true)
    (rw c.in_default.is at c.number_fault.ensures)

pub returns : goal.returns
returns c =
    let ns = c.args.numbers.now in
    let whole : take c.loop-number.number-index ns ≡ ns = take_all c.loop-number.number-index ns c.loop-number-test.false in
    λ e f. c.loop-number.invariant e (subst (λ (l : List DataIndexImm). HasSegmentNumberFault c.args.file.now c.args.body.now l e) (sym whole) f)
