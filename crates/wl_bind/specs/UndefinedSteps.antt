-- Objects and names, as names that nothing defines.
use Rattle.std.specs.Prelude.{ℕ, List, Option, Some, None}
use Rattle.std.specs.Borrow.{Bor}
use Rattle.indexmap.specs.IndexSet.{insert_key}
use Rattle.wl_linking.specs.declared.error.UndefinedSymbol.{UndefinedSymbol}
use Rattle.wl_bind.specs.Undefined.{same_undefined}

-- an object and a name
abbrev pub as_undefined : ℕ × Bor (List ℕ) → UndefinedSymbol
as_undefined p = record { object = p.0; name = p.1.now }

-- with one more, where there is one
abbrev pub insert_some : List UndefinedSymbol → Option UndefinedSymbol → List UndefinedSymbol
insert_some names None = names
insert_some names (Some name) = insert_key same_undefined names name
