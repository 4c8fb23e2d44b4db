use Rattle.wl_data.proofs.SpanLaws.{row_is_apart}
use Rattle.wl_data.proofs.laws.spans_are_apart.Goals as goal

pub returns : goal.returns
returns c = row_is_apart
