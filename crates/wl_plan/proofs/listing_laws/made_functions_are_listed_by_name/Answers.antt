use Rattle.wl_plan.proofs.ListedNames.{listed_by_name}
use Rattle.wl_plan.proofs.listing_laws.made_functions_are_listed_by_name.Goals as goal

pub returns : goal.returns
returns c = listed_by_name
