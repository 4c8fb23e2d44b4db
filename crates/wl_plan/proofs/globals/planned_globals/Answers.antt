use Rattle.std.proofs.Common.{List, subst}
use Rattle.std.proofs.lemmas.Result.{err_from_is_err_and}
use Rattle.wl_linking.specs.Steps.{Refuses}
use Rattle.wl_bind.specs.GlobalSpace.{GlobalEntry, DataOf, address_part, got_mem_part, got_func_part, dynamic_part}
use Rattle.wl_plan.specs.steps.Globals.{IsPartFault, linker_parts}
use Rattle.wl_plan.proofs.GlobalParts.{mapped_added, mapped_refused, part_refused, planned, planned_clear, refuses_left, refuses_right, six_are}
use Rattle.wl_plan.proofs.globals.planned_globals.Goals as goal

pub returns-in_err-push_named-clause-err : goal.returns-in_err-push_named-clause-err
returns-in_err-push_named-clause-err c =
    let residual = c.from_residual-in_err-push_named in
    let p = err_from_is_err_and residual.result residual.ensures.1 in
    let s = c.args.sources.now in
    let input = s.book.now.input.now in
    rw (p.1, p.2)
    (part_refused s _
    (refuses_left s (linker_parts input) _
    (subst (λ (part : List GlobalEntry). Refuses (IsPartFault s part) c.in_err-push_named.field-0.0)
    (six_are input) c.in_err-push_named.ensures.err)))

pub returns-in_err-push_addresses-clause-err : goal.returns-in_err-push_addresses-clause-err
returns-in_err-push_addresses-clause-err c =
    let residual = c.from_residual-in_err-push_addresses in
    let p = err_from_is_err_and residual.result residual.ensures.1 in
    let s = c.args.sources.now in
    let input = s.book.now.input.now in
    rw (p.1, p.2)
    (part_refused s _
    (refuses_right s (linker_parts input) _ (refuses_left s (address_part input) _
    c.in_err-push_addresses.ensures.err)))

pub returns-in_err-push_got_mem-clause-err : goal.returns-in_err-push_got_mem-clause-err
returns-in_err-push_got_mem-clause-err c =
    let residual = c.from_residual-in_err-push_got_mem in
    let p = err_from_is_err_and residual.result residual.ensures.1 in
    let s = c.args.sources.now in
    let input = s.book.now.input.now in
    rw (p.1, p.2)
    (part_refused s _
    (refuses_right s (linker_parts input) _ (refuses_right s (address_part input) _
    (refuses_left s (got_mem_part input) _
    c.in_err-push_got_mem.ensures.err))))

pub returns-in_err-push_got_func-clause-err : goal.returns-in_err-push_got_func-clause-err
returns-in_err-push_got_func-clause-err c =
    let residual = c.from_residual-in_err-push_got_func in
    let p = err_from_is_err_and residual.result residual.ensures.1 in
    let s = c.args.sources.now in
    let input = s.book.now.input.now in
    rw (p.1, p.2)
    (part_refused s _
    (refuses_right s (linker_parts input) _ (refuses_right s (address_part input) _
    (refuses_right s (got_mem_part input) _ (refuses_left s (got_func_part input) _
    c.in_err-push_got_func.ensures.err)))))

pub returns-in_err-push_data-clause-err : goal.returns-in_err-push_data-clause-err
returns-in_err-push_data-clause-err c =
    let residual = c.from_residual-in_err-push_data in
    let p = err_from_is_err_and residual.result residual.ensures.1 in
    let s = c.args.sources.now in
    let input = s.book.now.input.now in
    rw (p.1, p.2)
    (part_refused s _
    (refuses_right s (linker_parts input) _ (refuses_right s (address_part input) _
    (refuses_right s (got_mem_part input) _ (refuses_right s (got_func_part input) _
    (refuses_left s (dynamic_part input) _
    (mapped_refused s DataOf _ _ c.dynamic.ensures c.in_err-push_data.ensures.err)))))))

pub returns-in_err-push_data-2-clause-err : goal.returns-in_err-push_data-2-clause-err
returns-in_err-push_data-2-clause-err c =
    let residual = c.from_residual-in_err-push_data-2 in
    let p = err_from_is_err_and residual.result residual.ensures.1 in
    let s = c.args.sources.now in
    let input = s.book.now.input.now in
    rw (p.1, p.2)
    (part_refused s _
    (refuses_right s (linker_parts input) _ (refuses_right s (address_part input) _
    (refuses_right s (got_mem_part input) _ (refuses_right s (got_func_part input) _
    (refuses_right s (dynamic_part input) _
    (mapped_refused s DataOf _ _ c.forced.ensures c.in_err-push_data-2.ensures.err)))))))

pub returns-clause-ok : goal.returns-clause-ok
returns-clause-ok c =
    let s = c.args.sources.now in
    rw c.new.ensures
    (planned s c.in_ok-globals.ensures.items c.in_ok-push_named.ensures.ok
    c.in_ok-push_addresses.ensures.ok c.in_ok-push_got_mem.ensures.ok
    c.in_ok-push_got_func.ensures.ok
    (mapped_added s DataOf _ _ c.dynamic.ensures c.in_ok-push_data.ensures.ok)
    (mapped_added s DataOf _ _ c.forced.ensures c.in_ok-push_data-2.ensures.ok)
    c.in_ok-push_objects.ensures)

pub returns-clause-clear : goal.returns-clause-clear
returns-clause-clear c =
    let s = c.args.sources.now in
    planned_clear s.book.now.input.now s.book.now.placing.now _
    (planned s c.in_ok-globals.ensures.items c.in_ok-push_named.ensures.ok
    c.in_ok-push_addresses.ensures.ok c.in_ok-push_got_mem.ensures.ok
    c.in_ok-push_got_func.ensures.ok
    (mapped_added s DataOf _ _ c.dynamic.ensures c.in_ok-push_data.ensures.ok)
    (mapped_added s DataOf _ _ c.forced.ensures c.in_ok-push_data-2.ensures.ok)
    c.in_ok-push_objects.ensures)
