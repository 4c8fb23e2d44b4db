use Rattle.std.proofs.Common.{ℕ, ◌+◌, ◌<◌, get_or}
use Rattle.wl_linking.specs.Sites.{LiesBefore}
use Rattle.wl_custom.specs.declared.relocations.WasmRelocation.{WasmRelocation}
use Rattle.wl_linking.proofs.sites.are_apart.Given as goal

abbrev pub invariant-loop-i : goal.invariant-loop-i
invariant-loop-i l = (k : ℕ) (d : WasmRelocation) → k + 1 < l.i → LiesBefore (get_or l.relocations k d) (get_or l.relocations (k + 1) d)
