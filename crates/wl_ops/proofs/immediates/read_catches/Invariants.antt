use Rattle.std.proofs.Common.{◌≡◌, ◌-◌}
use Rattle.wl_bytes.specs.Cursor.{end_of}
use Rattle.wl_ops.specs.Front.{with_front}
use Rattle.wl_ops.specs.Immediates.{catch_at, flat_at}
use Rattle.wl_ops.proofs.immediates.read_catches.Given as goal

abbrev pub invariant-loop : goal.invariant-loop
invariant-loop l = (with_front l.args (flat_at catch_at (l.count - l.counter) l.reader) ≡ with_front l.fn.args (flat_at catch_at l.count l.fn.reader)) × (end_of l.reader ≡ end_of l.fn.reader)
