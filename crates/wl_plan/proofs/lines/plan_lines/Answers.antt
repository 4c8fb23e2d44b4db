use Rattle.std.proofs.Common.{◌∙◌, ap, Err}
use Rattle.wl_check.specs.Spelled.{IsListing}
use Rattle.wl_check.specs.declared.listing.ListingError.{ListingError}
use Rattle.wl_plan.specs.PlanLines.{lines_of}
use Rattle.wl_plan.proofs.PlanLineLaws.{none_bad, read_is}
use Rattle.wl_plan.proofs.lines.plan_lines.Goals as goal

pub returns-in-Ok-clause-lines : goal.returns-in-Ok-clause-lines
returns-in-Ok-clause-lines c =
    let plan = c.args.plan.now in
    let listing : IsListing (lines_of plan) c.deref.result.now = record {
      in_range = c.in_ok-text.ensures.fits c.requires;
      joined = c.deref.ensures.value ∙ c.in_ok-text.ensures.text;
    } in
    c.new.ensures ∙ read_is (λ lines. lines.items) c.deref.result.now c.read_listing.result c.in-Ok.lines (lines_of plan) c.in-Ok.is c.read_listing.ensures listing

pub unreachable-requires : goal.unreachable-requires
unreachable-requires c =
    let plan = c.args.plan.now in
    let listing : IsListing (lines_of plan) c.deref.result.now = record {
      in_range = c.in_ok-text.ensures.fits c.requires;
      joined = c.deref.ensures.value ∙ c.in_ok-text.ensures.text;
    } in
    none_bad (λ lines. lines.items) c.deref.result.now c.read_listing.result c.in-Err-Bad.field-0-0 (lines_of plan)
    (c.in-Err-Bad.is ∙ ap (λ (e : ListingError). Err e) c.in-Err-Bad.field-0-is) c.read_listing.ensures listing
