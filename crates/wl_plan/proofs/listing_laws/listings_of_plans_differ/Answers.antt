use Rattle.wl_plan.specs.PlanLines.{lines_of}
use Rattle.wl_plan.proofs.listing_laws.listings_of_plans_differ.Goals as goal

pub returns : goal.returns
returns c = λ a b first second same. c.listings_differ.ensures (lines_of a) (lines_of b) first second same
