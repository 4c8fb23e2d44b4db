-- The rows of function slots and those of global slots, side by side.
use Rattle.std.specs.Prelude.{List, [], ◌∷◌}
use Rattle.wl_bind.specs.declared.resolution.ImportResolution.{ImportResolution}
use Rattle.wl_bind.specs.declared.resolution.ObjectImportResolutions.{ObjectImportResolutions}

-- the rows of each object, of its function slots and of its global slots
abbrev pub joined_rows : List (List ImportResolution) → List (List ImportResolution)
    → List ObjectImportResolutions
joined_rows [] globals = []
joined_rows (fs ∷ functions) [] = []
joined_rows (fs ∷ functions) (gs ∷ globals) =
    record { function_resolutions = fs; global_resolutions = gs } ∷ joined_rows functions globals
