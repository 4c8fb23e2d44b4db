-- Why there can't be these exports.
use Rattle.std.specs.Prelude.{◌≡◌, ◌⊎◌, ℕ, ◌<◌, Bool, true, false, List, Contains, Option, None, Some, slice_get}
use Rattle.std.specs.Option.{option_map_or}
use Rattle.wl_custom.specs.Symbols.{Symbol as LinkedSymbol, is_table}
use Rattle.wl_linking.specs.declared.error.LinkError.{LinkError}
use Rattle.wl_linking.specs.declared.error.LinkError.TheVariants.{ExportNotFound, DuplicateExport, WrongKind}
use Rattle.wl_symbols.specs.Entries.{symbol_in}
use Rattle.wl_symbols.specs.Names.{named}
use Rattle.wl_symbols.specs.declared.entry.Definition.{Definition}
use Rattle.wl_symbols.specs.declared.entry.Definition.TheVariants.{Symbol}
use Rattle.wl_bind.specs.ExportedData.{is_made_name}
use Rattle.wl_symbols.specs.Input.{Input}
use Rattle.wl_exports.specs.Exports.{ExportEntry, named_entity, first_exports}

-- the definition is a symbol of a table
abbrev pub is_table_symbol : Input → Option Definition → Bool
is_table_symbol input (Some (Symbol object number)) =
    option_map_or (λ (s : LinkedSymbol). is_table s.kind)
    (symbol_in input.link.objects object number) false
is_table_symbol input _ = false

-- a name that has to be exported, and that the linker doesn't make
pub record IsRequired (input : Input) (name : List ℕ) : Type 0 where
  pub asked : Contains input.link.args.required_export_symbols name
  pub unmade : is_made_name input name ≡ false

-- such a name that stands for a table
pub record IsTableName (input : Input) (e : LinkError) : Type 0 where
  pub name : List ℕ
  pub required : IsRequired input name
  pub object : ℕ
  pub number : ℕ
  pub stands : named input.link name ≡ Some (Symbol object number)
  pub table : is_table_symbol input (named input.link name) ≡ true
  pub told : e ≡ WrongKind object number

-- such a name under which no object defines anything, and that isn't a table's
pub record IsNotFound (input : Input) (e : LinkError) : Type 0 where
  pub name : List ℕ
  pub required : IsRequired input name
  pub undefined : named_entity input name ≡ None
  pub no_table : is_table_symbol input (named input.link name) ≡ false
  pub told : e ≡ ExportNotFound name

-- two of what objects export and of the memory have one name
pub record IsDuplicateExport (input : Input) (e : LinkError) : Type 0 where
  pub first : ℕ
  pub second : ℕ
  pub in_order : first < second
  pub one : ExportEntry
  pub here : slice_get (first_exports input) first ≡ Some one
  pub other : ExportEntry
  pub there : slice_get (first_exports input) second ≡ Some other
  pub same : one.name ≡ other.name
  pub told : e ≡ DuplicateExport one.name

-- one of these
abbrev pub IsExportFault : Input → LinkError → Type 0
IsExportFault input e = IsTableName input e ⊎ (IsNotFound input e ⊎ IsDuplicateExport input e)
