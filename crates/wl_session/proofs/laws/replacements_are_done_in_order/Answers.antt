use Rattle.std.proofs.Common.{[], ◌∷◌}
use Rattle.wl_session.proofs.AfterLaws.{list_more, as_many, each}
use Rattle.wl_session.proofs.laws.replacements_are_done_in_order.Goals as goal

pub returns-clause-one_more : goal.returns-clause-one_more
returns-clause-one_more g c = λ items done more. list_more items done (more ∷ [])

pub returns-clause-list_more : goal.returns-clause-list_more
returns-clause-list_more g c = list_more

pub returns-clause-as_many : goal.returns-clause-as_many
returns-clause-as_many g c = as_many

pub returns-clause-each : goal.returns-clause-each
returns-clause-each g c = each
