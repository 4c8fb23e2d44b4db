-- How the list of data symbols whose names are to be exported is built.
use Rattle.std.specs.Prelude.{ℕ, List, Option, Some, None, if◌then◌else◌}
use Rattle.std.specs.Option.{option_and_then}
use Rattle.wl_symbols.specs.Input.{Input}
use Rattle.wl_bind.specs.ExportedData.{is_dynamic, forced_by}
use Rattle.wl_bind.specs.declared.exported.DataSymbol.{DataSymbol}

-- the data of an object that a name stands for, unless it is exported anyway
abbrev pub forced_alone : Input → List ℕ → Option DataSymbol
forced_alone input name =
    option_and_then (λ (d : DataSymbol). if is_dynamic input d then None else Some d)
    (forced_by input name)
