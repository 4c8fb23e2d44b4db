use Rattle.std.proofs.Common.{◌≡◌, ◌++◌, drop}
use Rattle.std.specs.List.{flat_map}
use Rattle.wl_check.specs.Texts.{further_type}
use Rattle.wl_check.proofs.rows.push_further_types.Given as goal

abbrev pub invariant-loop-value_type : goal.invariant-loop-value_type
invariant-loop-value_type l = l.page ++ flat_map further_type (drop l.value_type-index l.listed) ≡ l.initial.page ++ flat_map further_type l.listed
