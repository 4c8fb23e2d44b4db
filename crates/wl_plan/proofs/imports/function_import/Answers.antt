use Rattle.std.proofs.Common.{rules, ap}
use Rattle.wl_output.specs.declared.entities.OutputImportEntity.TheVariants.{Function}
use Rattle.wl_plan.proofs.ImportLaws.{imported_so}
use Rattle.wl_plan.proofs.imports.function_import.Goals as goal

pub returns : goal.returns
returns c = λ input is. imported_so input _ _ _ _ c.index_of_type.result is (c.index_of_type.ensures, search rules, search rules, ap Function c.unwrap_or-type_index.ensures)
