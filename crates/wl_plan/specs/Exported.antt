-- What an export of a plan leads to.
use Rattle.std.specs.Prelude.{◌≡◌, ◌⊎◌, ℕ, ◌+◌, Some, slice_get}
use Rattle.std.specs.List.{count_by}
use Rattle.wl_module.specs.Exports.{Exported}
use Rattle.wl_module.specs.declared.imports.ExternalKind.TheVariants.{Func}
use Rattle.wl_symbols.specs.Input.{Input}
use Rattle.wl_exports.specs.Exports.{ExportEntry, exports}
use Rattle.wl_exports.specs.Sources.{IsPlainExport}
use Rattle.wl_plan.specs.Origins.{OfWrapper, PlannedFunction}
use Rattle.wl_plan.specs.PlannedImports.{is_function_import}
use Rattle.wl_plan.specs.declared.layout.LinkPlan.{LinkPlan}

-- the export leads to the wrapper of its name: a function's index counts those that are imported
pub record LeadsToWrapper (plan : LinkPlan) (e : ExportEntry) (x : Exported) : Type 0 where
  pub name : x.name ≡ e.name
  pub kind : x.kind ≡ Func
  pub place : ℕ
  pub index : x.index ≡ count_by is_function_import plan.layout.imports + place
  pub wrapper : PlannedFunction
  pub here : slice_get plan.layout.function_type_indices place ≡ Some wrapper
  pub origin : wrapper.origin ≡ OfWrapper e.name

-- the export of that place leads to what the link exports there, or to the wrapper of that
pub record LeadsToItsThing (input : Input) (plan : LinkPlan) (place : ℕ) (x : Exported)
    : Type 0 where
  pub entry : ExportEntry
  pub here : slice_get (exports input) place ≡ Some entry
  pub leads : IsPlainExport input entry x ⊎ LeadsToWrapper plan entry x
