use Rattle.std.proofs.Common.{◌<◌, ◌≤◌, List, length, subst, arith}
use Rattle.wl_module.specs.Globals.{DefinedGlobal}
use Rattle.wl_plan.proofs.GlobalLaws.{global_at}
use Rattle.wl_plan.proofs.GlobalParts.{adds_none, adds_kept, kept_all}
use Rattle.wl_plan.proofs.globals.push_globals.Goals as goal

pub loop-number-init : goal.loop-number-init
loop-number-init c = (omega arith, adds_none c.args.sources.now c.args.globals.now.items)

pub push_kept-requires : goal.push_kept-requires
push_kept-requires c =
    let items = c.globals-global-items in
    global_at c.args.sources.now.book.now.input.now.link.objects c.args.object c.args.file.now
    items.result.now c.loop-number.number c.global-item.result c.requires items.ensures
    c.loop-number-test.true c.global-item.is

pub loop-number-preserved : goal.loop-number-preserved
loop-number-preserved c =
    let items = c.globals-global-items in
    let lt : c.loop-number.number < length c.args.file.now.globals =
    subst (λ (gs : List DefinedGlobal). c.loop-number.number < length gs) items.ensures
    c.loop-number-test.true in (
      omega (arith, lt),
      adds_kept c.args.sources.now c.args.object c.loop-number.number _ _ _
          c.loop-number.invariant.1 c.in_ok-push_kept.ensures,
    )

pub returns : goal.returns
returns c =
    let items = c.globals-global-items in
    let le : length c.args.file.now.globals ≤ c.loop-number.number =
    subst (λ (gs : List DefinedGlobal). length gs ≤ c.loop-number.number) items.ensures
    c.loop-number-test.false in
    kept_all c.args.sources.now c.args.object c.loop-number.number c.args.file.now _ _
    (omega (arith, le)) c.loop-number.invariant.1
