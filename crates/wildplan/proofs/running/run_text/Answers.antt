use Rattle.std.proofs.Common.{sym}
use Rattle.std.proofs.lemmas.Result.{IfOk-weaker}
use Rattle.wildplan.specs.Running.{refused, missing, taking, ran}
use Rattle.wildplan.proofs.running.run_text.Goals as goal

pub returns-in-Err : goal.returns-in-Err
returns-in-Err c =
    IfOk-weaker c.load_line.result _ _ (λ text is. refused c.in-Err.error c.in-Err.ensures.fault is) c.load_line.ensures

pub returns-in_default : goal.returns-in_default
returns-in_default c =
    IfOk-weaker c.from_slice.result _ _
    (λ text is. missing c.in-Ok.image c.in-Ok.ensures.image (rw c.as_slice.ensures at (sym c.in_default.ensures)) is) c.from_slice.ensures.items

pub returns-then-not-can_take_turns : goal.returns-then-not-can_take_turns
returns-then-not-can_take_turns c =
    IfOk-weaker c.from_slice-then-not-can_take_turns.result _ _
    (λ text is. taking c.in-Ok.image c.in-Some.function c.in-Ok.ensures.image (rw c.as_slice.ensures at (sym c.in-Some.ensures)) (sym c.if-not-can_take_turns.ensures) is) c.from_slice-then-not-can_take_turns.ensures.items

pub returns : goal.returns
returns c =
    IfOk-weaker c.end_line.result _ _
    (λ text is. ran c.in-Ok.image c.in-Some.function c.run_in_turn-end.result c.in-Ok.ensures.image (rw c.as_slice.ensures at (sym c.in-Some.ensures)) (sym c.if-not-can_take_turns.ensures) c.run_in_turn-end.ensures is) c.end_line.ensures
