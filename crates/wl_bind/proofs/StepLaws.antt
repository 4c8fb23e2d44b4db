-- The reasons for which the references of a link can't be bound, in rows.
use Rattle.wl_linking.specs.Steps.{Step, Clear, NoStep}
use Rattle.wl_linking.specs.declared.error.LinkError.{LinkError}
use Rattle.wl_linking.proofs.StepLaws.{IsRow, clear_end, clear_step, row_end, row_more}
use Rattle.wl_symbols.specs.Input.{Input}
use Rattle.wl_bind.specs.Bound.{slot_steps, bind_steps}
use Rattle.wl_bind.specs.Conflicts.{IsStubConflict, IsHostConflict}
use Rattle.wl_bind.specs.Kinds.{IsWrongKind}
use Rattle.wl_bind.specs.Signatures.{IsMismatch}
use Rattle.wl_bind.specs.Undefined.{IsUndefinedData, IsUndefinedImport}

-- those that lie in kept relocations, and what is judged after them
abbrev pub scan_steps : Input → (LinkError → Type 0) → LinkError → Type 0
scan_steps input behind =
    Step (IsWrongKind input) (Step (IsMismatch input) (Step (IsUndefinedData input) behind))

pub scan_is_row : (input : Input) → IsRow (scan_steps input)
scan_is_row input =
    row_more (IsWrongKind input) _
    (row_more (IsMismatch input) _ (row_more (IsUndefinedData input) _ row_end))

pub scan_clear : (input : Input) → Clear (IsWrongKind input) → Clear (IsMismatch input)
    → Clear (IsUndefinedData input) → Clear (scan_steps input NoStep)
scan_clear input kinds signatures undefined =
    clear_step (IsWrongKind input) _ kinds
    (clear_step (IsMismatch input) _ signatures
    (clear_step (IsUndefinedData input) _ undefined clear_end))

-- those by which slots can't be resolved
pub slots_are_row : (input : Input) → IsRow (slot_steps input)
slots_are_row input =
    row_more (IsWrongKind input) _
    (row_more (IsMismatch input) _
    (row_more (IsUndefinedData input) _ (row_more (IsStubConflict input) _ row_end)))

pub slots_clear : (input : Input) → Clear (IsWrongKind input) → Clear (IsMismatch input)
    → Clear (IsUndefinedData input) → Clear (IsStubConflict input) → Clear (slot_steps input NoStep)
slots_clear input kinds signatures undefined stubs =
    clear_step (IsWrongKind input) _ kinds
    (clear_step (IsMismatch input) _ signatures
    (clear_step (IsUndefinedData input) _ undefined
    (clear_step (IsStubConflict input) _ stubs clear_end)))

-- all of them
pub binding_is_row : (input : Input) → IsRow (bind_steps input)
binding_is_row input =
    row_more (IsWrongKind input) _
    (row_more (IsMismatch input) _
    (row_more (IsUndefinedData input) _
    (row_more (IsStubConflict input) _
    (row_more (IsUndefinedImport input) _ (row_more (IsHostConflict input) _ row_end)))))
