use Rattle.std.proofs.Common.{◌≡◌, ◌++◌, drop}
use Rattle.wl_live.specs.Facts.{section_uses}
use Rattle.wl_live.proofs.object_facts.push_uses.Given as goal

abbrev pub invariant-loop-i : goal.invariant-loop-i
invariant-loop-i l = l.list.items ++ section_uses l.kind (drop l.i l.relocations) (drop l.i l.sites) ≡ l.fn.list.items ++ section_uses l.kind l.relocations l.sites
