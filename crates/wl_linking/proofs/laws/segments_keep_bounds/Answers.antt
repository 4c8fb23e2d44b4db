use Rattle.wl_linking.proofs.BoundLaws.{infos_are_aligned, segments_spanned}
use Rattle.wl_linking.proofs.laws.segments_keep_bounds.Goals as goal

pub returns-clause-spanned : goal.returns-clause-spanned
returns-clause-spanned c = segments_spanned

pub returns-clause-aligned : goal.returns-clause-aligned
returns-clause-aligned c = infos_are_aligned
