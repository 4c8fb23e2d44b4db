-- Imports of the output as clauses see them.
use Rattle.std.specs.Prelude.{ℕ, List, Bool, true, false}
use Rattle.wl_output.specs.declared.entities.OutputImportEntity.{OutputImportEntity}
use Rattle.wl_output.specs.declared.entities.OutputImportEntity.TheVariants.{Function, Global, Memory}

-- an import as clauses see it: from which module, under which name, and what
pub record PlannedImport : Type 0 where
  pub origin : List ℕ
  pub name : List ℕ
  pub entity : OutputImportEntity

abbrev pub is_function_entity : OutputImportEntity → Bool
is_function_entity (Function type_index) = true
is_function_entity (Global ty) = false
is_function_entity (Memory m) = false

abbrev pub is_global_entity : OutputImportEntity → Bool
is_global_entity (Function type_index) = false
is_global_entity (Global ty) = true
is_global_entity (Memory m) = false

-- a function is imported
abbrev pub is_function_import : PlannedImport → Bool
is_function_import i = is_function_entity i.entity

-- a global is imported
abbrev pub is_global_import : PlannedImport → Bool
is_global_import i = is_global_entity i.entity
