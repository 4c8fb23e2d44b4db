-- Exports that are wrapped: they lead to wrappers, which follow all other functions.
use Rattle.std.specs.Prelude.{◌≡◌, ℕ, ◌+◌, ◌<◌, ◌&&◌, Bool, true, false, List, length, take, Some, slice_get}
use Rattle.std.specs.List.{AllZip, filter}
use Rattle.wl_module.specs.Exports.{Exported}
use Rattle.wl_module.specs.declared.imports.ExternalKind.TheVariants.{Func}
use Rattle.wl_linking.specs.declared.error.LinkError.{LinkError}
use Rattle.wl_linking.specs.declared.error.LinkError.TheVariants.{TooLarge}
use Rattle.wl_linking.specs.declared.error.Quantity.TheVariants.{Space}
use Rattle.wl_index.specs.declared.index.TheConstants.{MAX_ENTRIES}
use Rattle.wl_bind.specs.FunctionSpace.{FunctionEntry, function_space}
use Rattle.wl_symbols.specs.Input.{Input}
use Rattle.wl_exports.specs.Exports.{ExportEntry, OfFunction, exports}
use Rattle.wl_exports.specs.Sources.{IsPlainExport}
use Rattle.wl_exports.specs.Wrappers.{wraps, can_wrap, wrapped}

-- the export is wrapped
abbrev pub is_wrapped : Input → ExportEntry → Bool
is_wrapped input e = wraps input && can_wrap e

-- an export that is wrapped leads to the wrapper of that number, any other to its thing
abbrev pub IsExportIf : Bool → Input → ℕ → ExportEntry → Exported → Type 0
IsExportIf false input number e x = IsPlainExport input e x
IsExportIf true input number e x =
    (x.name ≡ e.name) × (x.kind ≡ Func) × (x.index ≡ length (function_space input) + number)

-- the export of that place: as many wrappers stand before its own as exports before it are wrapped
abbrev pub IsExportAt : Input → ℕ → ExportEntry → Exported → Type 0
IsExportAt input place e x =
    IsExportIf (is_wrapped input e) input
    (length (filter (is_wrapped input) (take place (exports input)))) e x

-- the exports of the output
pub record AreOutputExports (input : Input) (xs : List Exported) : Type 0 where
  pub len : length xs ≡ length (exports input)
  pub each : (place : ℕ) (e : ExportEntry) (x : Exported) → slice_get (exports input) place ≡ Some e
      → slice_get xs place ≡ Some x → IsExportAt input place e x

-- ---- wrappers

-- a wrapper: the name of its export, and the index of the function that it calls
pub record WrapperEntry : Type 0 where
  pub name : List ℕ
  pub original : ℕ

-- the wrapper of an export
pub record IsWrapper (input : Input) (e : ExportEntry) (w : WrapperEntry) : Type 0 where
  pub name : w.name ≡ e.name
  pub function : FunctionEntry
  pub leads : e.entity ≡ OfFunction function
  pub original : slice_get (function_space input) w.original ≡ Some function

-- those of the link, in the order of their exports
abbrev pub AreWrappers : Input → List WrapperEntry → Type 0
AreWrappers input ws = AllZip (IsWrapper input) (wrapped input) ws

-- with the wrappers the functions are too many
abbrev pub AreTooManyWrappers : Input → LinkError → Type 0
AreTooManyWrappers input e =
    (e ≡ TooLarge Space) × (MAX_ENTRIES < length (function_space input) + length (wrapped input))
