use Rattle.wl_bytes.proofs.ListLaws.{exact}
use Rattle.wl_module.proofs.GlobalLaws.{data_count_reading}
use Rattle.wl_module.proofs.memories.data_count_or_fault.Goals as goal

pub returns : goal.returns
returns c = exact data_count_reading
