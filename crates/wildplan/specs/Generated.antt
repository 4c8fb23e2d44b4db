-- The line with the numbers of a plan.
use Rattle.std.specs.Prelude.{ℕ, List, ◌++◌, length, sum_by, codes, decimal}
use Rattle.wl_plan.specs.Dropped.{dropped_in}
use Rattle.wl_plan.specs.declared.layout.LinkPlan.{LinkPlan}

-- The counts of a plan: its objects, its functions that aren't imported, what it drops, and its
-- relocations.
abbrev pub summary_text : LinkPlan → List ℕ
summary_text plan =
    codes "objects " ++ decimal (length plan.layout.object_index_maps)
    ++ codes " functions " ++ decimal (length plan.layout.function_type_indices)
    ++ codes " dropped " ++ decimal (sum_by dropped_in plan.layout.object_index_maps)
    ++ codes " fixups " ++ decimal (length plan.fixups) ++ codes "\n"
