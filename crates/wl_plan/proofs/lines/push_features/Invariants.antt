use Rattle.std.proofs.Common.{◌≡◌, ◌++◌, drop, map}
use Rattle.std.specs.List.{flat_map, AllByRecursion}
use Rattle.wl_check.specs.Ranges.{InRange}
use Rattle.wl_check.specs.Texts.{line_text}
use Rattle.wl_check.specs.declared.line.Line.TheVariants.{Feature}
use Rattle.wl_plan.proofs.lines.push_features.Given as goal

abbrev pub invariant-loop-name : goal.invariant-loop-name
invariant-loop-name l =
    (l.page ++ flat_map line_text (map Feature (map (λ n. n.now) (drop l.name-index l.names))) ≡ l.initial.page ++ flat_map line_text (map Feature (map (λ n. n.now) l.names)))
    × (AllByRecursion InRange (map Feature (map (λ n. n.now) (drop l.name-index l.names))) → AllByRecursion InRange (map Feature (map (λ n. n.now) l.names)))
