-- Why kept relocations refuse a link.
use Rattle.wl_linking.specs.Steps.{Step, NoStep}
use Rattle.wl_linking.specs.declared.error.LinkError.{LinkError}
use Rattle.wl_symbols.specs.Input.{Input}
use Rattle.wl_bind.specs.Kinds.{IsWrongKind}
use Rattle.wl_bind.specs.Signatures.{IsMismatch}
use Rattle.wl_bind.specs.Undefined.{IsUndefinedData}

-- first a symbol of another kind than its use asks for; then a function of another type; then data
-- that nothing defines
abbrev pub scan_fault : Input → LinkError → Type 0
scan_fault input =
    Step (IsWrongKind input) (Step (IsMismatch input) (Step (IsUndefinedData input) NoStep))
