use Rattle.std.proofs.Common.{true, false, arith}
use Rattle.std.proofs.lemmas.Result.{err_from_is_err_and}
use Rattle.wl_data.specs.Layouts.{HasNoRoom}
use Rattle.wl_data.specs.DataPlaces.{data_of, in_one_row, pass_over, AreObjectsLaid, IsPastMemory}
use Rattle.wl_linking.proofs.StepLaws.{refuses_more, refuses_for}
use Rattle.wl_data.proofs.ObjectLaws.{objects_count}
use Rattle.wl_data.proofs.EndLaws.{first_frontier, own_frontier, past_in_common, past_at_start, past_in_own, past_at_end, not_past}
use Rattle.wl_data.proofs.placing.place_all.Goals as goal

pub returns-in_err-layouts-clause-err : goal.returns-in_err-layouts-clause-err
returns-in_err-layouts-clause-err c =
    let d = data_of c.args.objects.now c.args.options in
    let p = err_from_is_err_and c.from_residual.result c.from_residual.ensures.1 in
    rw (p.1, p.2)
    (refuses_more (HasNoRoom (pass_over c.args.options false) (in_one_row c.args.objects.now) (first_frontier d)) (IsPastMemory d) _ (λ x. (x.0, past_in_common d c.requires x.1))
    (rw (c.pass_over-common.ensures, c.data_start-start.ensures) at c.in_err-layouts.ensures.err))

pub returns-in_default-clause-err : goal.returns-in_default-clause-err
returns-in_default-clause-err c =
    let d = data_of c.args.objects.now c.args.options in
    refuses_for (IsPastMemory d) c.past_last_address.result (c.past_last_address.ensures, past_at_start d c.lay_objects.new.frontier c.in_ok-layouts.layouts.items c.requires (rw (c.pass_over-common.ensures, c.data_start-start.ensures) at c.in_ok-layouts.ensures.ok) c.in_default.ensures)

pub append_objects-requires-clause-each : goal.append_objects-requires-clause-each
append_objects-requires-clause-each c = objects_count _ c.args.objects.now _ c.lay_objects.new.frontier c.in_ok-layouts.layouts.items c.in_ok-layouts.ensures.ok

pub returns-in_err-append_objects-clause-err : goal.returns-in_err-append_objects-clause-err
returns-in_err-append_objects-clause-err c =
    let d = data_of c.args.objects.now c.args.options in
    let p = err_from_is_err_and c.from_residual-in_err-append_objects.result c.from_residual-in_err-append_objects.ensures.1 in
    let common : AreObjectsLaid (pass_over c.args.options false) c.args.objects.now (first_frontier d) c.lay_objects.new.frontier c.in_ok-layouts.layouts.items = rw (c.pass_over-common.ensures, c.data_start-start.ensures) at c.in_ok-layouts.ensures.ok in
    rw (p.1, p.2)
    (refuses_more (HasNoRoom (pass_over c.args.options true) (in_one_row c.args.objects.now) (own_frontier d c.lay_objects.new.frontier)) (IsPastMemory d) _ (λ x. (x.0, past_in_own d c.lay_objects.new.frontier c.in_ok-layouts.layouts.items common x.1))
    (rw (c.pass_over-own.ensures, c.in-Some.ensures) at c.in_err-append_objects.ensures.err))

pub returns-in_default-flag_and_end-clause-err : goal.returns-in_default-flag_and_end-clause-err
returns-in_default-flag_and_end-clause-err c =
    let d = data_of c.args.objects.now c.args.options in
    let common : AreObjectsLaid (pass_over c.args.options false) c.args.objects.now (first_frontier d) c.lay_objects.new.frontier c.in_ok-layouts.layouts.items = rw (c.pass_over-common.ensures, c.data_start-start.ensures) at c.in_ok-layouts.ensures.ok in
    let own = c.in_ok-append_objects.ensures.ok in
    refuses_for (IsPastMemory d) c.past_last_address-in_default-flag_and_end.result
    (c.past_last_address-in_default-flag_and_end.ensures, past_at_end d c.lay_objects.new.frontier c.append_objects.new.frontier c.in_ok-layouts.layouts.items own.0 common (rw (c.pass_over-own.ensures, c.in-Some.ensures) at own.1) c.in_default-flag_and_end.ensures.places)

pub returns-clause-clear : goal.returns-clause-clear
returns-clause-clear c =
    let d = data_of c.args.objects.now c.args.options in
    let common : AreObjectsLaid (pass_over c.args.options false) c.args.objects.now (first_frontier d) c.lay_objects.new.frontier c.in_ok-layouts.layouts.items = rw (c.pass_over-common.ensures, c.data_start-start.ensures) at c.in_ok-layouts.ensures.ok in
    let own = c.in_ok-append_objects.ensures.ok in
    not_past d c.lay_objects.new.frontier c.append_objects.new.frontier c.in_ok-layouts.layouts.items own.0 common (rw (c.pass_over-own.ensures, c.in-Some.ensures) at own.1)
    (omega (arith, c.in-Some-flag_and_end.ensures.small, c.in-Some-flag_and_end.ensures.places.1)) c.in_ok-append_objects.ensures.low
