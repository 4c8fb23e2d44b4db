use Rattle.std.proofs.Common.{◌≡◌, ◌-◌}
use Rattle.wl_bytes.specs.Cursor.{end_of}
use Rattle.wl_bytes.specs.Grammar.{times_at}
use Rattle.wl_ops.specs.Front.{with_front}
use Rattle.wl_ops.specs.Immediates.{single_at}
use Rattle.wl_ops.proofs.immediates.read_singles.Given as goal

abbrev pub invariant-loop : goal.invariant-loop
invariant-loop l = (with_front l.args (times_at (single_at l.single) (l.count - l.counter) l.reader) ≡ with_front l.fn.args (times_at (single_at l.single) l.count l.fn.reader)) × (end_of l.reader ≡ end_of l.fn.reader)
