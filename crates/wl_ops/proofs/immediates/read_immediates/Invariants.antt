use Rattle.std.proofs.Common.{◌≡◌, drop}
use Rattle.wl_bytes.specs.Cursor.{end_of}
use Rattle.wl_ops.specs.Front.{with_front}
use Rattle.wl_ops.specs.Immediates.{immediates_at}
use Rattle.wl_ops.proofs.immediates.read_immediates.Given as goal

abbrev pub invariant-loop-immediate : goal.invariant-loop-immediate
invariant-loop-immediate l = (with_front l.args (immediates_at (drop l.immediate-index l.immediates) l.reader) ≡ immediates_at l.immediates l.fn.reader) × (end_of l.reader ≡ end_of l.fn.reader)
