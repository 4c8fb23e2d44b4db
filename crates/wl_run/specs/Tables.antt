-- The table as it is at the start.
use Rattle.std.specs.Prelude.{ℕ, ◌+◌, ◌-◌, List, [], ◌∷◌, ◌++◌, length, map, replicate, Option, Some, None}
use Rattle.wl_module.specs.declared.limits.TableType.{TableType}

-- slots that hold no function, as many as there are after these
abbrev pub empty_slots : ℕ → List ℕ → List (Option ℕ)
empty_slots size elements = replicate (size - (1 + length elements)) None

-- the first slot holds none, and each after it its function
abbrev pub first_table : Option TableType → List ℕ → List (Option ℕ)
first_table None elements = []
first_table (Some t) elements = None ∷ (map Some elements ++ empty_slots t.initial elements)
