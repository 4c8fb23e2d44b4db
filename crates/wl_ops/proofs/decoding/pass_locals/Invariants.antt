use Rattle.std.proofs.Common.{◌≡◌, ◌-◌}
use Rattle.wl_bytes.specs.Cursor.{end_of}
use Rattle.wl_bytes.specs.Grammar.{times_at}
use Rattle.wl_bytes.specs.Checks.{any_at}
use Rattle.wl_ops.specs.Decoding.{local_at}
use Rattle.wl_ops.proofs.decoding.pass_locals.Given as goal

abbrev pub invariant-loop : goal.invariant-loop
invariant-loop l = (any_at (times_at local_at (l.count - l.counter)) l.reader ≡ any_at (times_at local_at l.count) l.fn.reader) × (end_of l.reader ≡ end_of l.fn.reader)
