use Rattle.std.proofs.lemmas.Result.{err_from_is_err_and, on_ok_weaker}
use Rattle.std.proofs.Common.{◌≡◌, ◌∙◌, List, rules, subst, sym}
use Rattle.std.specs.List.{AllByRecursion}
use Rattle.wl_linking.specs.Fitting.{IsWhole}
use Rattle.wl_linking.specs.Object.{Object}
use Rattle.wl_data.specs.DataPlaces.{AllCanBePlaced, IsDataPlaces}
use Rattle.wl_data.specs.Segments.{KeptData}
use Rattle.wl_places.specs.KeptData.{all_segments}
use Rattle.wl_places.specs.Placing.{data_input, data_options}
use Rattle.wl_places.proofs.KeptDataLaws.{all_can}
use Rattle.wl_places.proofs.PlacingLaws.{fault_clear, few_if, numbers_few, past_clear, past_refused, place_clear, size_clear}
use Rattle.wl_places.proofs.placing.place_data.Goals as goal

pub place_all-requires : goal.place_all-requires
place_all-requires c =
    let input = c.args.input.now in
    let same : c.as_slice-2.result.now ≡ all_segments input = search rules in
    let whole : AllByRecursion IsWhole input.link.objects =
    subst (λ (os : List Object). AllByRecursion IsWhole os) (c.as_slice-files.ensures.objects ∙ c.files.ensures.objects) c.as_slice-files.ensures.whole in
    subst (λ (rows : List (List KeptData)). AllByRecursion AllCanBePlaced rows) (sym same) (all_can c.segments_keep_bounds.ensures.spanned c.segments_keep_bounds.ensures.aligned input 0 input.link.objects whole)

pub returns-in_err-places-clause-err : goal.returns-in_err-places-clause-err
returns-in_err-places-clause-err c =
    let input = c.args.input.now in
    let same : c.as_slice-2.result.now ≡ all_segments input = search rules in
    let p = err_from_is_err_and c.from_residual-in_err-places.result c.from_residual-in_err-places.ensures.1 in
    rw (p.1, p.2) (past_refused input c.as_slice-2.result.now c.data_options-options.result c.in_err-places.field-0.0 same
    c.data_options-options.ensures c.in_ok-check_segment_count.ensures.clear c.in_ok-ensure_stack_size_aligned.ensures.clear
    c.in_err-places.ensures.err)

pub returns-clause-few : goal.returns-clause-few
returns-clause-few c =
    let input = c.args.input.now in
    let places = c.in_ok-places.places in
    let laid : IsDataPlaces (data_input input) places = search rules in
    few_if c.place_memory.result input places c.place_memory.ensures.ok
    (numbers_few input (data_options input) places.layouts c.in_ok-check_segment_count.ensures.clear
    (c.segments_have_layouts.ensures (data_input input) places laid))

pub returns-clause-clear : goal.returns-clause-clear
returns-clause-clear c =
    let input = c.args.input.now in
    let places = c.in_ok-places.places in
    let same : c.as_slice-2.result.now ≡ all_segments input = search rules in
    let laid : IsDataPlaces (data_input input) places = search rules in
    on_ok_weaker c.place_memory.result
    (λ clear. place_clear input c.in_ok-check_segment_count.ensures.clear
    (size_clear input c.data_options-options.result c.data_options-options.ensures c.in_ok-ensure_stack_size_aligned.ensures.clear)
    (past_clear input c.as_slice-2.result.now c.data_options-options.result same c.data_options-options.ensures c.in_ok-places.ensures.clear)
    (fault_clear input places c.places_are_one.ensures laid clear))
    c.place_memory.ensures.clear
