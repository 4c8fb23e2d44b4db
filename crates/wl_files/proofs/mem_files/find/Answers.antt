use Rattle.std.proofs.Common.{rules, arith, ◌∙◌}
use Rattle.wl_files.proofs.Memory.{held-here}
use Rattle.wl_files.proofs.mem_files.find.Goals as goal

pub returns-then-eq : goal.returns-then-eq
returns-then-eq c = (omega arith, c.loop-i.invariant ∙ held-here c.args.files.now c.loop-i.i c.index-files-i.result c.args.name.now (omega arith) c.index-files-i.is (search rules))
