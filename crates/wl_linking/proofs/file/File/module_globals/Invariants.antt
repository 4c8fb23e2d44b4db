use Rattle.std.proofs.Common.{◌≡◌, take}
use Rattle.wl_linking.proofs.file.File.module_globals.Given as goal

abbrev pub invariant-loop-global : goal.invariant-loop-global
invariant-loop-global l = l.globals.items ≡ take l.global-index l.global-items
