use Rattle.std.proofs.Common.{drop}
use Rattle.wildplan.proofs.ReplayLaws.{ReplacesOn}
use Rattle.wildplan.proofs.replacing.replace_all.Given as goal

abbrev pub invariant-loop-place : goal.invariant-loop-place
invariant-loop-place l = ReplacesOn l.fn.session l.session l.replacements (drop l.place l.replacements) l.contents (drop l.place l.contents)
