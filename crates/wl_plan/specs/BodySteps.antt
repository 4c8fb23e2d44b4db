-- How bodies of the output come to be.
use Rattle.std.specs.Prelude.{◌≡◌, ℕ, ◌==◌, [], ◌∷◌, ◌++◌, true, List, length, if◌then◌else◌, Option, Some, None, Contains, slice_get}
use Rattle.std.specs.List.{AllByRecursion, AllZip}
use Rattle.wl_module.specs.Bodies.{Body}
use Rattle.wl_custom.specs.Debug.{DebugInput}
use Rattle.wl_linking.specs.Fitting.{IsWhole}
use Rattle.wl_linking.specs.Steps.{Clear}
use Rattle.wl_ops.specs.Numbers.{AreTold}
use Rattle.wl_ops.specs.Rewriting.{new_index, AllMove}
use Rattle.wl_ops.specs.declared.op.DataIndexImm.{DataIndexImm}
use Rattle.wl_live.specs.Faults.{IsKeptFault}
use Rattle.wl_symbols.specs.Live.{IsLiveOf}
use Rattle.wl_bind.specs.FunctionSpace.{FunctionEntry}
use Rattle.wl_symbols.specs.Input.{Input}
use Rattle.wl_plan.specs.Bodies.{IsBodyIn, IsMadeBody, IsBodyOf}
use Rattle.wl_plan.specs.declared.rewriting.Renumbering.{Renumbering}
use Rattle.wl_plan.specs.declared.rewriting.RewrittenBody.{RewrittenBody}
use Rattle.wl_places.specs.SegmentNumbers.{AreNewNumbers, AreAllNumbers}
use Rattle.wl_places.specs.declared.placing.Placing.{Placing}

-- ---- bodies

-- a link of whole objects, whose kept bodies are decoded, and number segments that there are
pub record AreSoundBodies (input : Input) : Type 0 where
  pub whole : AllByRecursion IsWhole input.link.objects
  pub kept : IsLiveOf input.link input.live
  pub clear : Clear (IsKeptFault input.link)

-- the numbers are those of such a link
pub record IsRenumbering (r : Renumbering) : Type 0 where
  pub sound : AreSoundBodies r.input.now
  pub numbers : AreAllNumbers r.input.now r.placing.now r.rows.now

-- fields of a body of the object, which stood there, stand here once it has those numbers
pub record AreMovedIn (input : Input) (g : Placing) (object : ℕ) (body old new : List ℕ)
    : Type 0 where
  pub numbers : List DataIndexImm
  pub theirs : AreTold numbers body
  pub row : List (Option ℕ)
  pub are_new : AreNewNumbers input g object row
  pub moved : AllMove (new_index row) numbers old new

-- the bodies are those that the output has of their functions
abbrev pub AreRewritten : Input → Placing → List RewrittenBody → Type 0
AreRewritten input g bodies = (one : RewrittenBody) → Contains bodies one
    → IsBodyIn input g one.object one.function one.body

-- the body is one of these, that of the function
pub record IsTakenFrom (bodies : List RewrittenBody) (object function : ℕ) (b : Body)
    : Type 0 where
  pub one : RewrittenBody
  pub listed : Contains bodies one
  pub object_is : one.object ≡ object
  pub function_is : one.function ≡ function
  pub body_is : b ≡ one.body

-- ---- lists that grow

-- the list grows by a body that the linker makes
pub record AddsMadeBody (bytes : List ℕ) (old new : List Body) : Type 0 where
  pub body : Body
  pub is : IsMadeBody bytes body
  pub grown : new ≡ old ++ body ∷ []

-- the list grows by the bodies of these functions
pub record AddsBodies (input : Input) (g : Placing) (entries : List FunctionEntry)
    (old new : List Body) : Type 0 where
  pub more : List Body
  pub are : AllZip (IsBodyOf input g) entries more
  pub grown : new ≡ old ++ more

-- ---- debug sections

-- a debug section of object i
abbrev pub debug_in : ℕ → DebugInput → DebugInput
debug_in i section = record section { object_index = i }
