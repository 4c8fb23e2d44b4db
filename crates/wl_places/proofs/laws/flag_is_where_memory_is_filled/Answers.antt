use Rattle.wl_places.proofs.ThreadDataLaws.{flag_where_filled}
use Rattle.wl_places.proofs.laws.flag_is_where_memory_is_filled.Goals as goal

pub returns : goal.returns
returns c = flag_where_filled
