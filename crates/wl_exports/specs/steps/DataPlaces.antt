-- How it is noted where exported data stands.
use Rattle.std.specs.Prelude.{◌≡◌, ◌⊎◌, ℕ, ◌+◌, List, ◌++◌, Contains, Option, Some, slice_get}
use Rattle.std.specs.HashMap.{HashMap, get_by}
use Rattle.wl_bind.specs.ExportedData.{same_data, dynamic_data, forced_data}
use Rattle.wl_bind.specs.GlobalSpace.{DataOf, global_space}
use Rattle.wl_symbols.specs.Input.{Input}
use Rattle.wl_bind.specs.declared.exported.DataSymbol.{DataSymbol}

-- the data symbols that are exported
abbrev pub exported_data : Input → List DataSymbol
exported_data input = dynamic_data input ++ forced_data input

-- what is noted of a data symbol
abbrev pub place_of : {S : Type 0} → HashMap DataSymbol ℕ S → DataSymbol → Option ℕ
place_of places d = get_by (same_data d) places

-- the data symbol has its place in a list, and that is noted, counted from the first index
pub record IsNoted (symbols : List DataSymbol) (first : ℕ) (d : DataSymbol) (noted : Option ℕ)
    : Type 0 where
  pub place : ℕ
  pub stands : slice_get symbols place ≡ Some d
  pub told : noted ≡ Some (first + place)

-- it isn't in the list, and what is noted of it is as before
pub record IsLeft (symbols : List DataSymbol) (d : DataSymbol) (before noted : Option ℕ)
    : Type 0 where
  pub absent : Contains symbols d → ⊥
  pub same : noted ≡ before

-- the places of these are noted, and nothing else
abbrev pub NotesPlaces : {S : Type 0} → List DataSymbol → ℕ → HashMap DataSymbol ℕ S
    → HashMap DataSymbol ℕ S → Type 0
NotesPlaces symbols first old new =
    (d : DataSymbol)
    → IsNoted symbols first d (place_of new d) ⊎ IsLeft symbols d (place_of old d) (place_of new d)

-- what is noted is the index of the global with the address
pub record HasDataPlace (input : Input) (d : DataSymbol) (noted : Option ℕ) : Type 0 where
  pub index : ℕ
  pub told : noted ≡ Some index
  pub stands : slice_get (global_space input) index ≡ Some (DataOf d)

-- this is noted of all data that is exported
abbrev pub AreDataPlaces : {S : Type 0} → Input → HashMap DataSymbol ℕ S → Type 0
AreDataPlaces input places =
    (d : DataSymbol) → Contains (exported_data input) d → HasDataPlace input d (place_of places d)
