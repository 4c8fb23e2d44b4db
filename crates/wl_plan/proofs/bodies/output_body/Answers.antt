use Rattle.std.proofs.Common.{◌≡◌, ◌∙◌, [], false, ap, sym}
use Rattle.wl_ops.specs.Numbers.{AreTold}
use Rattle.wl_symbols.specs.Live.{Live, numbers_segments}
use Rattle.wl_symbols.specs.declared.units.LinkUnit.{LinkUnit}
use Rattle.wl_symbols.specs.declared.units.WasmGcUnit.TheVariants.{DefinedFunction}
use Rattle.wl_plan.proofs.BodyLaws.{none_told, copied_is, taken_is}
use Rattle.wl_plan.proofs.bodies.output_body.Goals as goal

pub returns-then-not-numbers_segments-clause-ok : goal.returns-then-not-numbers_segments-clause-ok
returns-then-not-numbers_segments-clause-ok c =
    let input = c.args.renumbering.now.input.now in
    let body = c.args.body.now in
    let u : LinkUnit = record { object = c.args.site.0; unit = DefinedFunction c.args.site.1 } in
    let off : numbers_segments input.live u ≡ false =
    ap (λ (l : Live). numbers_segments l u) (sym c.live.ensures.live)
    ∙ (sym c.numbers_segments.ensures ∙ c.if-not-numbers_segments.true) in
    let told : AreTold [] body.bytes =
    none_told c.unmarked_bodies_number_none.ensures input c.args.site.0 c.args.site.1 body
    c.requires.renumbering.sound c.requires.here c.requires.kept off in
    copied_is input c.args.renumbering.now.placing.now c.args.site.0 c.args.site.1 body
    c.in_ok-copied.field-0 c.requires.here told c.in_ok-copied.ensures.bytes
    c.in_ok-copied.ensures.owned c.in_ok-copied.ensures.code_offset c.in_ok-copied.ensures.object

pub returns-in-Some-clause-ok : goal.returns-in-Some-clause-ok
returns-in-Some-clause-ok c =
    taken_is c.args.renumbering.now.input.now c.args.renumbering.now.placing.now
    c.args.rewritten.now.items c.args.site.0 c.args.site.1 c.in-Some.body c.requires.rewritten
    c.in-Some.ensures.taken

pub returns-in-Some-clause-rewritten : goal.returns-in-Some-clause-rewritten
returns-in-Some-clause-rewritten c =
    λ one listed. c.requires.rewritten one (c.take_next.ensures.left one listed)

pub returns-in-None-clause-rewritten : goal.returns-in-None-clause-rewritten
returns-in-None-clause-rewritten c =
    λ one listed. c.requires.rewritten one (c.take_next.ensures.left one listed)
