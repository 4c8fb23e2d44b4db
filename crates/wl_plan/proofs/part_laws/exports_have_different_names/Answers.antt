use Rattle.wl_plan.proofs.ExportNameLaws.{different_names}
use Rattle.wl_plan.proofs.part_laws.exports_have_different_names.Goals as goal

pub returns : goal.returns
returns c = different_names
