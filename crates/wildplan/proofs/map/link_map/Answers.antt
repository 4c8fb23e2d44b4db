use Rattle.std.proofs.Common.{◌∙◌, ap}
use Rattle.wl_plan.specs.ObjectSegments.{segments_of_objects}
use Rattle.std.proofs.lemmas.Result.{IfOk-weaker}
use Rattle.wildplan.proofs.MapLaws.{map_is}
use Rattle.wildplan.proofs.map.link_map.Goals as goal

pub returns : goal.returns
returns c =
    IfOk-weaker c.into_text.result _ _ (λ text is. map_is c.args.plan.now c.count_output_imports-functions.result.0 c.as_slice.result.now c.deref.result.now c.new-page.result _ _ _ text.items c.new-page.ensures c.count_output_imports-functions.ensures.functions c.as_slice.ensures (c.deref.ensures.value ∙ c.in_ok-segments.ensures ∙ ap (λ (ls : _). segments_of_objects 0 ls) c.as_slice-2.ensures) c.in_ok-push_functions.ensures c.in_ok-push_segments.ensures c.in_ok-push_totals.ensures is) c.into_text.ensures
