use Rattle.wl_bind.proofs.ReferenceLaws.{table_is_kept}
use Rattle.wl_bind.proofs.reference_laws.table_functions_are_kept.Goals as goal

pub returns : goal.returns
returns c = table_is_kept c.link_laws.ensures
