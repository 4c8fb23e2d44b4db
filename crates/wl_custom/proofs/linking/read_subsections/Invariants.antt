use Rattle.std.proofs.Common.{◌≡◌, length}
use Rattle.wl_bytes.specs.Cursor.{end_of}
use Rattle.wl_custom.proofs.LinkingLaws.{ReadsOn}
use Rattle.wl_custom.proofs.linking.read_subsections.Given as goal

abbrev pub invariant-loop-alloc : goal.invariant-loop-alloc
invariant-loop-alloc l = ReadsOn l.base l.fn.reader l.reader l.seen l.linking × (end_of l.reader ≡ end_of l.fn.reader)

abbrev pub decreases-loop-alloc : goal.decreases-loop-alloc
decreases-loop-alloc l = length l.reader.rest
