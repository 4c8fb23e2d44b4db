use Rattle.std.proofs.Common.{◌≡◌, drop}
use Rattle.wl_run.specs.Filled.{filled}
use Rattle.wl_run.proofs.filling.put_fixups.Given as goal

abbrev pub invariant-loop-fixup : goal.invariant-loop-fixup
invariant-loop-fixup l =
    filled l.site (drop l.fixup-index l.fixups) l.bytes.items ≡ filled l.site l.fixups l.fn.bytes.items
