-- The types of the output: each type once, by first occurrence.
use Rattle.std.specs.Prelude.{◌≡◌, ◌<◌, List, [], length, ⊤}
use Rattle.indexmap.specs.IndexSet.{insert_key, insert_all}
use Rattle.wl_index.specs.declared.index.TheConstants.{MAX_ENTRIES}
use Rattle.wl_module.specs.Types.{FunctionType, same_type}
use Rattle.wl_linking.specs.declared.error.LinkError.{LinkError}
use Rattle.wl_linking.specs.declared.error.LinkError.TheVariants.{OutOfMemory, TooLarge}
use Rattle.wl_linking.specs.declared.error.Quantity.TheVariants.{Space}

-- the list with one more type, unless it is there
abbrev pub add_type : List FunctionType → FunctionType → List FunctionType
add_type types ty = insert_key same_type types ty

-- these types, each where it first occurs
abbrev pub output_list : List FunctionType → List FunctionType
output_list types = insert_all same_type [] types

-- memory ran out, or the list would have too many entries
abbrev pub IsFull : {X : Type 0} → List X → LinkError → Type 0
IsFull entries OutOfMemory = ⊤
IsFull entries (TooLarge what) = (what ≡ Space) × (MAX_ENTRIES < length entries)
IsFull entries _ = ⊥
