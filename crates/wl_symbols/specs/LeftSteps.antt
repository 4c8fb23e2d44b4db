-- What maps beside lists of imports say: the place of each import, and which field names are
-- stubs'.
use Rattle.std.specs.Prelude.{◌≡◌, ℕ, ◌&&◌, Bool, true, List, unwrap_or}
use Rattle.std.specs.HashMap.{HashMap, get_by}
use Rattle.std.specs.Str.{bytes_eq}
use denote.Ref.{Bor}
use Rattle.wl_symbols.specs.Left.{HostImport, place_of_name, place_of_import}

-- the two have the same field name
abbrev pub has_same_name : HostImport → HostImport → Bool
has_same_name a b = bytes_eq a.name b.name

-- the two have the same module and the same field name
abbrev pub has_same_names : HostImport → HostImport → Bool
has_same_names a b = bytes_eq a.module_ b.module_ && bytes_eq a.name b.name

-- the map says where in the list the import of each field name stands
abbrev pub TellsNames : {S : Type 0} → List HostImport → HashMap (Bor (List ℕ)) ℕ S → Type 0
TellsNames imports places =
    (name : List ℕ) → get_by (λ k. bytes_eq name k.now) places ≡ place_of_name name imports

-- the map says where in the list the import of each module and field name stands
abbrev pub TellsImports : {S : Type 0} → List HostImport → HashMap (Bor (List ℕ) × Bor (List ℕ)) ℕ S
    → Type 0
TellsImports imports places =
    (origin name : List ℕ) → get_by (λ k. bytes_eq origin k.0.now && bytes_eq name k.1.now) places
    ≡ place_of_import origin name imports

-- the map says that the field name is a stub's; a name that isn't there counts as one
abbrev pub is_told_stub : {S : Type 0} → HashMap (Bor (List ℕ)) Bool S → List ℕ → Bool
is_told_stub names name = unwrap_or (get_by (λ k. bytes_eq name k.now) names) true
