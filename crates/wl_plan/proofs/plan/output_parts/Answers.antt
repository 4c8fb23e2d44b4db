use Rattle.std.proofs.Common.{◌≡◌, ◌≤◌, length, List, rules, subst, sym}
use Rattle.std.proofs.lemmas.Result.{err_from_is_err_and}
use Rattle.wl_module.specs.Bodies.{Body}
use Rattle.wl_linking.specs.Steps.{Clear, NoStep, Step}
use Rattle.wl_index.specs.declared.index.TheConstants.{MAX_ENTRIES}
use Rattle.wl_data.specs.Segments.{SegmentLayout}
use Rattle.wl_data.specs.Sizes.{segment_count}
use Rattle.wl_exports.specs.Faults.{IsExportFault}
use Rattle.wl_plan.specs.Faults.{IsSizeFault, IsValueFault}
use Rattle.wl_plan.specs.steps.Sizes.{IsTooBig}
use Rattle.wl_linking.proofs.StepLaws.{clear_end, clear_step, refuses_behind, refuses_for, refuses_here}
use Rattle.wl_plan.proofs.PlanLaws.{bodies_few, segments_few, size_clear, size_refuses, values_clear}
use Rattle.wl_plan.proofs.UniqueBodies.{FormsAreOne}
use Rattle.wl_plan.proofs.plan.output_parts.Goals as goal

pub section_sizes-requires-clause-bodies : goal.section_sizes-requires-clause-bodies
section_sizes-requires-clause-bodies c =
    let input = c.args.things.now.input.now in
    let few = bodies_few input c.args.things.now.placing.now c.in_ok-values.bodies
    c.requires.things.wrapper_room c.in_ok-values.ensures.bodies in
    let same : c.as_slice.result.now ≡ c.in_ok-values.bodies = search rules in
    subst (λ (bodies : List Body). length bodies ≤ MAX_ENTRIES) (sym same) few

pub section_sizes-requires-clause-layouts : goal.section_sizes-requires-clause-layouts
section_sizes-requires-clause-layouts c =
    let g = c.args.things.now.placing.now in
    let same : c.as_slice-layouts.result.now ≡ g.places.layouts = search rules in
    subst (λ (rows : List (List SegmentLayout)). segment_count rows ≤ MAX_ENTRIES) (sym same)
    (segments_few g c.requires.things.room)

pub returns-in_err-sizes-clause-err : goal.returns-in_err-sizes-clause-err
returns-in_err-sizes-clause-err c =
    let residual = c.from_residual-in_err-sizes in
    let p = err_from_is_err_and residual.result residual.ensures.1 in
    let input = c.args.things.now.input.now in
    let g = c.args.things.now.placing.now in
    let e = c.in_err-sizes.field-0.0 in
    let bodies : c.as_slice.result.now ≡ c.in_ok-values.bodies = search rules in
    let layouts : c.as_slice-layouts.result.now ≡ g.places.layouts = search rules in
    let big : IsTooBig c.in_ok-values.bodies g.places.layouts e =
    subst (λ (rows : List (List SegmentLayout)). IsTooBig c.in_ok-values.bodies rows e) layouts
    (subst (λ (bs : List Body). IsTooBig bs c.as_slice-layouts.result.now e) bodies
    c.in_err-sizes.ensures.err) in
    let forms : FormsAreOne = record {
      unsigned = c.shortest_form_is_one.ensures.unsigned;
      signed = c.shortest_form_is_one.ensures.signed;
      numbers = c.numbers_are_one.ensures.one;
      calls = c.init_calls_are_one.ensures;
      encoded = c.body_or_fault.ensures.one;
    } in
    let values : Clear (IsValueFault input g) =
    values_clear forms c.body_or_fault.ensures.either input g (c.entries_stand_once.ensures.globals input)
    c.in_ok-values.bodies c.in_ok-values.ensures.bodies c.in_ok-values.ensures.clear in
    let fault = size_refuses input g c.in_ok-values.bodies e c.in_ok-values.ensures.bodies big in
    rw (p.1, p.2) (refuses_behind (IsValueFault input g) _ e values
    (refuses_behind (IsExportFault input) (Step (IsSizeFault input g) NoStep) e
    (rw c.requires.input at c.in_ok-check_exports.ensures.clear)
    (refuses_here (IsSizeFault input g) NoStep e (refuses_for (IsSizeFault input g) e fault))))

pub returns-clause-clear : goal.returns-clause-clear
returns-clause-clear c =
    let input = c.args.things.now.input.now in
    let g = c.args.things.now.placing.now in
    let forms : FormsAreOne = record {
      unsigned = c.shortest_form_is_one.ensures.unsigned;
      signed = c.shortest_form_is_one.ensures.signed;
      numbers = c.numbers_are_one.ensures.one;
      calls = c.init_calls_are_one.ensures;
      encoded = c.body_or_fault.ensures.one;
    } in
    let bodies : c.as_slice.result.now ≡ c.in_ok-values.bodies = search rules in
    let layouts : c.as_slice-layouts.result.now ≡ g.places.layouts = search rules in
    let small : Clear (IsTooBig c.in_ok-values.bodies g.places.layouts) =
    subst (λ (rows : List (List SegmentLayout)). Clear (IsTooBig c.in_ok-values.bodies rows))
    layouts
    (subst (λ (bs : List Body). Clear (IsTooBig bs c.as_slice-layouts.result.now)) bodies
    c.in_ok-sizes.ensures.clear) in
    let values : Clear (IsValueFault input g) =
    values_clear forms c.body_or_fault.ensures.either input g (c.entries_stand_once.ensures.globals input)
    c.in_ok-values.bodies c.in_ok-values.ensures.bodies c.in_ok-values.ensures.clear in
    clear_step (IsValueFault input g) _ values
    (clear_step (IsExportFault input) (Step (IsSizeFault input g) NoStep)
    (rw c.requires.input at c.in_ok-check_exports.ensures.clear)
    (clear_step (IsSizeFault input g) NoStep
    (size_clear forms input g c.in_ok-values.bodies (c.entries_stand_once.ensures.functions input)
    (c.entries_stand_once.ensures.globals input)
    c.in_ok-values.ensures.bodies small)
    clear_end))

pub returns-in_err-values-clause-err : goal.returns-in_err-values-clause-err
returns-in_err-values-clause-err c =
    let p = err_from_is_err_and c.from_residual.result c.from_residual.ensures.1 in
    let input = c.args.things.now.input.now in
    let g = c.args.things.now.placing.now in
    rw (p.1, p.2)
    (refuses_here (IsValueFault input g) _ c.in_err-values.field-0.0 c.in_err-values.ensures.err)

pub returns-in_err-check_exports-clause-err : goal.returns-in_err-check_exports-clause-err
returns-in_err-check_exports-clause-err c =
    let residual = c.from_residual-in_err-check_exports in
    let p = err_from_is_err_and residual.result residual.ensures.1 in
    let input = c.args.things.now.input.now in
    let g = c.args.things.now.placing.now in
    let e = c.in_err-check_exports.field-0.0 in
    let forms : FormsAreOne = record {
      unsigned = c.shortest_form_is_one.ensures.unsigned;
      signed = c.shortest_form_is_one.ensures.signed;
      numbers = c.numbers_are_one.ensures.one;
      calls = c.init_calls_are_one.ensures;
      encoded = c.body_or_fault.ensures.one;
    } in
    let values : Clear (IsValueFault input g) =
    values_clear forms c.body_or_fault.ensures.either input g (c.entries_stand_once.ensures.globals input)
    c.in_ok-values.bodies c.in_ok-values.ensures.bodies c.in_ok-values.ensures.clear in
    let refused = rw c.requires.input at c.in_err-check_exports.ensures.err in
    rw (p.1, p.2) (refuses_behind (IsValueFault input g) _ e values
    (refuses_here (IsExportFault input) _ e refused))
