-- Of each object the symbols that others know by a name, kept while objects change.
use Rattle.std.specs.Prelude.{◌≡◌, ℕ, ◌+◌, ◌-◌, List, [], ◌∷◌, ◌++◌, length, replicate, slice_get, slice_set, Option, unwrap_or}
use Rattle.std.specs.List.{flat_map, AllByRecursion}
use Rattle.wl_linking.specs.Object.{Object}
use Rattle.wl_symbols.specs.Entries.{Entry, entries_from}
use Rattle.wl_symbols.specs.Bearers.{Lists}
use Rattle.wl_symbols.specs.declared.bearers.Bearer.{Bearer}

-- the entries of each of these objects, the first of which has number i
abbrev pub index_from : ℕ → List Object → List (List Entry)
index_from i [] = []
index_from i (o ∷ objects) = entries_from i 0 o.symbols ∷ index_from (i + 1) objects

-- the entries of each of these objects, and no others
abbrev pub index_of : List Object → List (List Entry)
index_of objects = index_from 0 objects

-- all entries, object by object
abbrev pub all_entries : List (List Entry) → List Entry
all_entries index = flat_map (λ entries. entries) index

-- at least so many objects: those that aren't known yet have no entries
abbrev pub padded : ℕ → List (List Entry) → List (List Entry)
padded n index = index ++ replicate (n - length index) []

-- the object's entries in place of those that its number had
abbrev pub with_object : List (List Entry) → ℕ → Object → List (List Entry)
with_object index object o =
    slice_set (padded (object + 1) index) object (entries_from object 0 o.symbols)

-- ---- objects in order

-- each list has the symbols of the object of its number, the first of which is i
abbrev pub AreNumbered : ℕ → List (List Entry) → Type 0
AreNumbered i [] = Unit {0}
AreNumbered i (entries ∷ index) =
    AllByRecursion (λ e. e.place.object ≡ i) entries × AreNumbered (i + 1) index

-- for each name there are exactly the symbols that bear it, and each object's stand in its place
pub record IsIndexed (found : List ℕ → Option (List Bearer)) (index : List (List Entry)) : Type 0
  where
    pub lists : Lists found (all_entries index)
    pub numbered : AreNumbered 0 index

-- the entries of the object of that number
abbrev pub entries_in : List (List Entry) → ℕ → List Entry
entries_in index object = unwrap_or (slice_get index object) []
