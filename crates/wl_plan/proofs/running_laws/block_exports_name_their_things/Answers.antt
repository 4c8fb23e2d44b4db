use Rattle.wl_plan.proofs.BlockExportLaws.{block_exported}
use Rattle.wl_plan.proofs.running_laws.block_exports_name_their_things.Goals as goal

pub returns : goal.returns
returns c = λ input plan e is there. block_exported input plan.layout.exports e is.spaces.exports there
