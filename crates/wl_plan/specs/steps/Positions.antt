-- Fields of one body.
use Rattle.std.specs.Prelude.{◌≡◌, ◌≤◌, ◌<◌, ℕ, ◌==◌, ◌&&◌, not, Bool, true, false, List, [], ◌∷◌, ◌++◌, filter, length, Some, Contains, ⊤}
use Rattle.std.specs.List.{AllByRecursion, AllZip}
use Rattle.wl_module.specs.Bodies.{Body}
use Rattle.wl_symbols.specs.Input.{Input}
use Rattle.wl_symbols.specs.Live.{Live, numbers_segments}
use Rattle.wl_symbols.specs.Relocations.{relocations}
use Rattle.wl_symbols.specs.declared.relocated.FixupPlace.{FixupPlace}
use Rattle.wl_symbols.specs.declared.relocated.FixupPlace.TheVariants.{Code, Segment}
use Rattle.wl_symbols.specs.declared.relocated.Relocated.{Relocated}
use Rattle.wl_symbols.specs.declared.units.WasmGcUnit.TheVariants.{DefinedFunction}
use Rattle.wl_plan.specs.Bodies.{IsMovedIn, body_in}
use Rattle.wl_places.specs.declared.placing.Placing.{Placing}

-- the field lies in code
abbrev pub is_code : FixupPlace → Bool
is_code Code = true
is_code Segment = false

-- the two fields lie in one body
abbrev pub share_body : Relocated → Relocated → Bool
share_body first other =
    is_code first.place && is_code other.place && (first.object == other.object)
    && (first.site.unit == other.site.unit)

-- the fields lie in the body of the first; or there is one, which lies in data
abbrev pub AreOfOneBody : List Relocated → Type 0
AreOfOneBody [] = ⊤
AreOfOneBody (first ∷ others) =
    AllByRecursion (λ (other : Relocated). share_body first other ≡ true) others

-- a field lies in the body of these, or there are none
abbrev pub goes_on : List Relocated → Relocated → Bool
goes_on [] r = true
goes_on (first ∷ others) r = share_body first r

-- the relocations are kept
abbrev pub AreKept : Input → List Relocated → Type 0
AreKept input rs = (r : Relocated) → Contains rs r → Contains (relocations input) r

-- the field lies in this body of the object
pub record IsThere (input : Input) (object : ℕ) (body : Body) (r : Relocated) : Type 0 where
  pub code : r.place ≡ Code
  pub object_is : r.object ≡ object
  pub here : body_in input r.object r.site.unit ≡ Some body
  pub within : r.site.position ≤ length body.bytes

-- the field lies in data, or in a body that isn't marked as one that numbers segments
abbrev pub stays : Input → Relocated → Bool
stays input r =
    not (is_code r.place && numbers_segments input.live
    (record { object = r.object; unit = DefinedFunction r.site.unit }))

-- the first of them doesn't stay, if there is one
abbrev pub IsMoving : Input → List Relocated → Type 0
IsMoving input [] = ⊤
IsMoving input (first ∷ others) = stays input first ≡ false

-- those of these relocations whose fields don't stay
abbrev pub moving : Input → List Relocated → List Relocated
moving input rs = filter (λ (r : Relocated). not (stays input r)) rs

-- where the fields of these stand in what the output has that don't stay, one after the other
abbrev pub AreMoved : Input → Placing → List Relocated → List ℕ → Type 0
AreMoved input g rs positions = AllZip (IsMovedIn input g) (moving input rs) positions

-- where all fields stand: those that don't stay there, and the others where they stood
pub record AreMovedFields (input : Input) (g : Placing) (positions : List ℕ) : Type 0 where
  pub moved : AreMoved input g (relocations input) positions
  pub others : (r : Relocated) → Contains (relocations input) r → stays input r ≡ true
      → IsMovedIn input g r r.site.position

-- of the first functions of an object, so many of them, none has a body that numbers segments
abbrev pub NoneIsMarked : Live → ℕ → ℕ → Type 0
NoneIsMarked live object count = (function : ℕ) → function < count
    → numbers_segments live (record { object = object; unit = DefinedFunction function }) ≡ false

-- the list grows by where these fields stand in what the output has
pub record AddsMoved (input : Input) (g : Placing) (run : List Relocated) (old new : List ℕ)
    : Type 0 where
  pub moved : List ℕ
  pub are : AllZip (IsMovedIn input g) run moved
  pub grown : new ≡ old ++ moved
