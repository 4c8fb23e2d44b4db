-- What the references of a link are bound to, and why they can't be.
use Rattle.std.specs.Prelude.{List, Option}
use Rattle.wl_module.specs.Types.{FunctionType}
use Rattle.wl_linking.specs.Steps.{Step, NoStep}
use Rattle.wl_linking.specs.declared.error.LinkError.{LinkError}
use Rattle.wl_symbols.specs.Input.{Input}
use Rattle.wl_bind.specs.FunctionSymbols.{function_bindings}
use Rattle.wl_bind.specs.FunctionTypes.{stub_types}
use Rattle.wl_bind.specs.Kinds.{IsWrongKind}
use Rattle.wl_bind.specs.Signatures.{IsMismatch}
use Rattle.wl_bind.specs.Undefined.{IsUndefinedData, IsUndefinedImport}
use Rattle.wl_bind.specs.Conflicts.{IsStubConflict, IsHostConflict}
use Rattle.wl_bind.specs.Resolutions.{resolutions, by_all_rules}
use Rattle.wl_bind.specs.Scan.{Scanned, scan_of}
use Rattle.wl_bind.specs.Shared.{Shared, shared_of}
use Rattle.wl_bind.specs.declared.binding.FunctionTarget.{FunctionTarget}
use Rattle.wl_bind.specs.declared.resolution.ObjectImportResolutions.{ObjectImportResolutions}

-- what function slots are bound to, what slots are resolved to, what kept relocations ask for, the
-- types of the stubs, and what the host is asked for
pub record Bound : Type 0 where
  pub functions : List (List (Option FunctionTarget))
  pub resolutions : List ObjectImportResolutions
  pub scan : Scanned
  pub stubs : List FunctionType
  pub shared : Shared

-- those of a link
abbrev pub bound_of : Input → Bound
bound_of input = record {
  functions = function_bindings input;
  resolutions = resolutions input (by_all_rules input);
  scan = scan_of input;
  stubs = stub_types input;
  shared = shared_of input;
}

-- the reasons, in the order in which they are judged: those by which slots can't be resolved, and
-- what is judged after them
abbrev pub slot_steps : Input → (LinkError → Type 0) → LinkError → Type 0
slot_steps input behind =
    Step (IsWrongKind input) (Step (IsMismatch input) (Step (IsUndefinedData input)
    (Step (IsStubConflict input) behind)))

-- then those by which slots can't be left to the host, and what is judged after them
abbrev pub left_steps : Input → (LinkError → Type 0) → LinkError → Type 0
left_steps input behind = Step (IsUndefinedImport input) (Step (IsHostConflict input) behind)

abbrev pub bind_steps : Input → (LinkError → Type 0) → LinkError → Type 0
bind_steps input behind = slot_steps input (left_steps input behind)

abbrev pub bind_fault : Input → LinkError → Type 0
bind_fault input = bind_steps input NoStep
