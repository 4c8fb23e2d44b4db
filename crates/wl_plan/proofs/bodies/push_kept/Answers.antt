use Rattle.std.proofs.Common.{◌≡◌, true}
use Rattle.wl_symbols.specs.declared.units.WasmGcUnit.TheVariants.{DefinedFunction}
use Rattle.wl_symbols.specs.Input.{keeps}
use Rattle.wl_plan.proofs.GrowLaws.{adds_kept, kept_is}
use Rattle.wl_plan.proofs.bodies.push_kept.Goals as goal

pub returns-clause-ok : goal.returns-clause-ok
returns-clause-ok c =
    let input = c.args.renumbering.now.input.now in
    let kept : keeps input c.args.site.0 (DefinedFunction c.args.site.1) ≡ true =
    kept_is c.live.result.now input.live
    (record { object = c.args.site.0; unit = DefinedFunction c.args.site.1 })
    c.is_live.result c.is_live.ensures c.if-not-is_live.false c.live.ensures.live in
    adds_kept input c.args.renumbering.now.placing.now c.args.site.0 c.args.site.1
    c.in_ok-kept.kept c.args.bodies.now.items c.push.new.self.items kept c.in_ok-kept.ensures.ok
    c.in_ok-push.ensures.items
