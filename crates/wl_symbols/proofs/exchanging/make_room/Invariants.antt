use Rattle.std.proofs.Common.{◌≡◌, ◌≤◌, ◌+◌, ◌-◌, length}
use Rattle.wl_symbols.specs.Index.{padded}
use Rattle.wl_symbols.proofs.exchanging.make_room.Given as goal

abbrev pub invariant-loop-alloc : goal.invariant-loop-alloc
invariant-loop-alloc l = record {
  padded : l.objects.items ≡ padded (length l.objects.items) l.initial.objects.items;
  known : l.known ≡ length l.initial.objects.items;
  more : l.known ≤ length l.objects.items;
  within : length l.objects.items ≤ l.known + (l.object + 1 - l.known);
}

abbrev pub decreases-loop-alloc : goal.decreases-loop-alloc
decreases-loop-alloc l = l.object + 1 - length l.objects.items
