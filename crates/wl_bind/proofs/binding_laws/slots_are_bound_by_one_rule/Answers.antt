use Rattle.wl_bind.proofs.OneRuleLaws.{bound_as}
use Rattle.wl_bind.proofs.binding_laws.slots_are_bound_by_one_rule.Goals as goal

pub returns : goal.returns
returns c = λ input t kept. bound_as input t kept
