use Rattle.std.proofs.Common.{◌∙◌, List, ap}
use Rattle.std.specs.List.{AllByRecursion}
use Rattle.std.proofs.lemmas.Result.{IfOk-weaker}
use Rattle.wl_data.specs.Segments.{SegmentLayout}
use Rattle.wl_check.specs.Ranges.{InRange}
use Rattle.wl_plan.specs.ObjectSegments.{segments_of_objects}
use Rattle.wl_plan.specs.PlanLines.{lines_of, HasListing}
use Rattle.wl_plan.proofs.PlanLineLaws.{on_ok}
use Rattle.wl_plan.proofs.lines.listing.Goals as goal

pub push_lines-requires-clause-segments : goal.push_lines-requires-clause-segments
push_lines-requires-clause-segments c =
    c.deref.ensures.value ∙ c.in_ok-segments.ensures
    ∙ ap (λ (rows : List (List SegmentLayout)). segments_of_objects 0 rows) c.as_slice.ensures

pub returns-clause-text : goal.returns-clause-text
returns-clause-text c =
    IfOk-weaker c.into_text.result _ _ (λ text is. is ∙ c.in_ok-push_lines.ensures.text)
    c.into_text.ensures

pub returns-clause-fits : goal.returns-clause-fits
returns-clause-fits c =
    on_ok c.into_text.result (HasListing c.args.plan.now → AllByRecursion InRange (lines_of c.args.plan.now))
    c.in_ok-push_lines.ensures.fits
