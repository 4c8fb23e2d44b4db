use Rattle.std.proofs.Common.{length, arith}
use Rattle.wl_linking.proofs.FewLaws.{few_items}
use Rattle.wl_linking.proofs.object.object_lists_are_few.Goals as goal

pub returns : goal.returns
returns c = λ bytes o h. few_items (length bytes) bytes o h (omega arith)
