use Rattle.std.proofs.Common.{◌≡◌, ◌++◌, drop, map}
use Rattle.std.specs.List.{flat_map, AllByRecursion}
use Rattle.wl_check.specs.Ranges.{InRange}
use Rattle.wl_check.specs.Texts.{line_text}
use Rattle.wl_check.specs.declared.line.Line.TheVariants.{Fix}
use Rattle.wl_plan.proofs.lines.push_fixups.Given as goal

abbrev pub invariant-loop-fixup : goal.invariant-loop-fixup
invariant-loop-fixup l =
    (l.page ++ flat_map line_text (map Fix (drop l.fixup-index l.fixups)) ≡ l.initial.page ++ flat_map line_text (map Fix l.fixups))
    × (AllByRecursion InRange (map Fix (drop l.fixup-index l.fixups)) → AllByRecursion InRange (map Fix l.fixups))
