-- The objects that some bytes are.
use Rattle.std.specs.Prelude.{◌≡◌, ℕ, List, [], ◌∷◌, take, Some, slice_get, ⊤}
use Rattle.wl_bytes.specs.declared.read_error.ReadError.{ReadError}
use Rattle.wl_bytes.specs.declared.read_error.ReadError.TheVariants as read
use Rattle.wl_linking.specs.Object.{Object}
use Rattle.wl_linking.specs.Fitting.{IsObject, ObjectFault}
use Rattle.wl_linking.specs.declared.error.LinkError.{LinkError}
use Rattle.wl_linking.specs.declared.error.LinkError.TheVariants.{Malformed, Unsupported}

-- each of the bytes is its object
abbrev pub AreObjects : List Object → List (List ℕ) → Type 0
AreObjects [] [] = ⊤
AreObjects (file ∷ files) (bytes ∷ objects) = IsObject file bytes × AreObjects files objects
AreObjects [] (bytes ∷ objects) = ⊥
AreObjects (file ∷ files) [] = ⊥

-- this object isn't in the grammar, and those before it are
pub record IsRefusedAt (objects : List (List ℕ)) (object : ℕ) (e : ReadError) : Type 0 where
  pub before : List Object
  pub grammar : AreObjects before (take object objects)
  pub bytes : List ℕ
  pub here : slice_get objects object ≡ Some bytes
  pub fault : ObjectFault e bytes

-- an object isn't in the grammar
abbrev pub IsBadObject : List (List ℕ) → LinkError → Type 0
IsBadObject objects (Malformed object why) = IsRefusedAt objects object (read.Malformed why)
IsBadObject objects (Unsupported object form) = IsRefusedAt objects object (read.Unsupported form)
IsBadObject objects _ = ⊥
