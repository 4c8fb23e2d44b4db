use Rattle.wildplan.proofs.CheckLaws.{ListingsAreOne, one_check, one_verdict}
use Rattle.wildplan.proofs.check.verdicts_are_one.Goals as goal

pub returns-clause-plan : goal.returns-clause-plan
returns-clause-plan c =
    let laws : ListingsAreOne = record {
      one_listing = c.listing_or_bad_line.ensures.one_listing;
      one_bad_line = c.listing_or_bad_line.ensures.one_bad_line;
      not_both = c.listing_or_bad_line.ensures.not_both;
      one_difference = c.differences_are_one.ensures;
    } in
    one_verdict laws

pub returns-clause-objects : goal.returns-clause-objects
returns-clause-objects c =
    let laws : ListingsAreOne = record {
      one_listing = c.listing_or_bad_line.ensures.one_listing;
      one_bad_line = c.listing_or_bad_line.ensures.one_bad_line;
      not_both = c.listing_or_bad_line.ensures.not_both;
      one_difference = c.differences_are_one.ensures;
    } in
    one_check laws c.link_plan_or_fault.ensures.one
