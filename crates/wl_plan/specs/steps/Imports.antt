-- How imports of the output come to be.
use Rattle.std.specs.Prelude.{◌≡◌, ℕ, List, ◌++◌, Option, Some, slice_get}
use Rattle.std.specs.List.{AllZip, filter_map}
use Rattle.std.specs.Option.{option_and_then}
use Rattle.wl_module.specs.Imports.{Imported}
use Rattle.wl_module.specs.declared.globals.GlobalType.{GlobalType}
use Rattle.wl_linking.specs.Object.{Object}
use Rattle.wl_index.specs.declared.index_map.WasmObjectIndexMap.{WasmObjectIndexMap}
use Rattle.wl_symbols.specs.Input.{Input}
use Rattle.wl_symbols.specs.Left.{HostImport}
use Rattle.wl_bind.specs.BindingSteps.{number_at}
use Rattle.wl_bind.specs.EntryTypes.{type_of_slot}
use Rattle.wl_bind.specs.OutputTypes.{output_types}
use Rattle.wl_plan.specs.Functions.{IsTypeNumber}
use Rattle.wl_plan.specs.Imports.{global_type_in}
use Rattle.wl_plan.specs.PlannedImports.{PlannedImport}

-- the list grows by imports of these hosts
pub record AddsImports (IsImport : HostImport → PlannedImport → Type 0) (hosts : List HostImport)
    (old new : List PlannedImport) : Type 0 where
  pub more : List PlannedImport
  pub are : AllZip IsImport hosts more
  pub grown : new ≡ old ++ more

-- where the type of the slot of a host import went, by the numbers of the types of slots and by the
-- maps of objects
abbrev pub index_of_type : List (List ℕ) → List WasmObjectIndexMap → HostImport → Option ℕ
index_of_type slots maps h =
    option_and_then
    (λ number. option_and_then (λ (m : WasmObjectIndexMap). slice_get m.type_indices number)
    (slice_get maps h.object))
    (number_at slots h.object h.slot)

-- there it has its type
pub record HasTypeIndexIn (input : Input) (slots : List (List ℕ)) (maps : List WasmObjectIndexMap)
    (h : HostImport) : Type 0 where
  pub index : ℕ
  pub there : index_of_type slots maps h ≡ Some index
  pub typed : IsTypeNumber (output_types input) (type_of_slot input h.object h.slot) index

-- the types of the globals that an object imports
abbrev pub global_types_in : Object → List GlobalType
global_types_in o = filter_map (λ (i : Imported). global_type_in i.entity) o.imports

-- the type of that number in the row of that number
abbrev pub type_in_row : List (List GlobalType) → ℕ → ℕ → Option GlobalType
type_in_row rows row number =
    option_and_then (λ (types : List GlobalType). slice_get types number) (slice_get rows row)

-- there is one
pub record HasRowType (rows : List (List GlobalType)) (row number : ℕ) : Type 0 where
  pub types : List GlobalType
  pub here : slice_get rows row ≡ Some types
  pub ty : GlobalType
  pub there : slice_get types number ≡ Some ty
