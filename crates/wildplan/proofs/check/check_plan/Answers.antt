use Rattle.wildplan.proofs.check.check_plan.Goals as goal

pub check_listing-requires : goal.check_listing-requires
check_listing-requires c =
    c.plans_have_listings.ensures.read c.args.objects.now c.args.args.now c.in_ok-plan.plan c.none_is_longer.ensures c.in_ok-plan.ensures.ok

pub returns-clause-verdict : goal.returns-clause-verdict
returns-clause-verdict c = record {
  plan = c.in_ok-plan.plan;
  planned = c.in_ok-plan.ensures.ok;
  in_range = c.in_ok-check_listing.ensures.in_range;
  verdict = c.in_ok-check_listing.ensures.verdict;
}
