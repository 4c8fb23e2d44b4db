use Rattle.std.proofs.lemmas.Result.{err_from_is_err_and}
use Rattle.wl_bind.specs.ExportedAddresses.{exported_addresses}
use Rattle.wl_bind.specs.GlobalSpace.{AddressOf, address_part}
use Rattle.wl_linking.proofs.StepLaws.{refuses_memory}
use Rattle.wl_plan.specs.steps.Globals.{IsPartFault}
use Rattle.wl_plan.proofs.GlobalParts.{adds_made, adds_none, adds_more, adds_all, refuses_one, refuses_start, mapped_added, mapped_refused}
use Rattle.wl_plan.proofs.globals.push_addresses.Goals as goal

pub loop-made-init : goal.loop-made-init
loop-made-init c = adds_none c.args.sources.now c.args.globals.now.items

pub loop-made-preserved : goal.loop-made-preserved
loop-made-preserved c =
    let s = c.args.sources.now in
    adds_more s AddressOf c.args.addresses.now c.loop-made.made-index _
    c.loop-made-test.true c.loop-made.invariant
    (adds_made s (AddressOf _) c.in_ok-start.start _ _ (λ m x. x)
    c.in_ok-start.ensures c.in_ok-push_made.ensures)

pub returns-in_err-start-clause-err : goal.returns-in_err-start-clause-err
returns-in_err-start-clause-err c =
    let p = err_from_is_err_and c.from_residual.result c.from_residual.ensures.1 in
    let s = c.args.sources.now in
    rw (p.1, p.2)
    (mapped_refused s AddressOf c.args.addresses.now
    (exported_addresses s.book.now.input.now.link.args)
    c.requires.all
    (refuses_one s AddressOf c.args.addresses.now c.loop-made.made-index _ c.loop-made-test.true
    (refuses_start s (AddressOf _) c.in_err-start.field-0.0 c.in_err-start.ensures)))

pub returns-in_err-push_made-clause-err : goal.returns-in_err-push_made-clause-err
returns-in_err-push_made-clause-err c =
    let residual = c.from_residual-in_err-push_made in
    let p = err_from_is_err_and residual.result residual.ensures.1 in
    let s = c.args.sources.now in
    rw p.1 (refuses_memory (IsPartFault s (address_part s.book.now.input.now)) p.0 p.2)

pub returns-clause-ok : goal.returns-clause-ok
returns-clause-ok c =
    let s = c.args.sources.now in
    mapped_added s AddressOf c.args.addresses.now
    (exported_addresses s.book.now.input.now.link.args)
    c.requires.all
    (adds_all s AddressOf c.args.addresses.now c.loop-made.made-index c.loop-made-test.false
    c.loop-made.invariant)
