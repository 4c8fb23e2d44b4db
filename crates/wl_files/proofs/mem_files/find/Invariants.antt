use Rattle.std.proofs.Common.{◌≡◌, drop}
use Rattle.wl_files.specs.Held.{held}
use Rattle.wl_files.proofs.mem_files.find.Given as goal

-- the files so far have other names
abbrev pub invariant-loop-i : goal.invariant-loop-i
invariant-loop-i l = held l.files l.name ≡ held (drop l.i l.files) l.name
