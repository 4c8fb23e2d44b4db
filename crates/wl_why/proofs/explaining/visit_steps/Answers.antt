use Rattle.std.proofs.Common.{ℕ, ◌<◌, refl, get_or, length, None}
use Rattle.std.proofs.lemmas.Option.{slice_get-get_or}
use Rattle.wl_symbols.specs.declared.units.LinkUnit.{LinkUnit}
use Rattle.wl_symbols.specs.declared.units.WasmGcUnit.TheVariants.{DefinedFunction}
use Rattle.wl_why.specs.Explaining.{step_of, IsVisitStep}
use Rattle.wl_why.specs.declared.walk.Visit.{Visit}
use Rattle.wl_why.proofs.ExplainLaws.{zip_more}
use Rattle.wl_why.proofs.explaining.visit_steps.Goals as goal

pub loop-visit-preserved : goal.loop-visit-preserved
loop-visit-preserved c =
    let no_visit : Visit = record { node = 0; from = None } in
    let no_unit : LinkUnit = record { object = 0; unit = DefinedFunction 0 } in
    let i : ℕ = c.loop-visit.visit-index in
    let v : Visit = get_or c.args.visits.now i no_visit in
    let lt : i < length c.args.visits.now = c.loop-visit-test.true in
    let inside : v.node < length c.args.units.now = c.requires i no_visit lt in
    let u : LinkUnit = get_or c.args.units.now v.node no_unit in
    let step : IsVisitStep c.args.units.now v (step_of u v.from) = record { unit = slice_get-get_or c.args.units.now v.node no_unit inside; from = refl } in
    rw (c.in_ok-push.ensures.items, c.step_of.ensures)
    (zip_more c.args.units.now c.args.visits.now c.loop-visit.steps.items i no_visit (step_of u v.from) lt c.loop-visit.invariant step)
