-- The bodies of the functions, and where fields stand in them.
use Rattle.std.specs.Prelude.{◌≡◌, ℕ, ◌+◌, ◌==◌, ◌&&◌, ◌||◌, Bool, true, not, length, List, [], ◌∷◌, ◌++◌, map, Contains, Option, Some, None, position, if◌then◌else◌, slice_get}
use Rattle.std.specs.List.{AllZip}
use Rattle.std.specs.Option.{option_and_then}
use Rattle.wl_module.specs.Bodies.{Body}
use Rattle.wl_module.specs.Types.{FunctionType}
use Rattle.wl_custom.specs.Debug.{DebugInput}
use Rattle.wl_linking.specs.Object.{Object}
use Rattle.wl_symbols.specs.declared.linker_symbol.WasmLinkerSymbol.TheVariants.{CallCtors, InitTls}
use Rattle.wl_ops.specs.Numbers.{AreTold}
use Rattle.wl_ops.specs.Rewriting.{Rewrites, Moves}
use Rattle.wl_linking.specs.declared.error.LinkError.{LinkError}
use Rattle.wl_linking.specs.declared.error.LinkError.TheVariants.{ConstantRange}
use Rattle.wl_ops.specs.declared.op.DataIndexImm.{DataIndexImm}
use Rattle.wl_ops.specs.declared.op.Op.{Op}
use Rattle.wl_synth.specs.Bodies.{call_sequence_ops, wrapper_ops, ThreadBlock, init_tls_ops, init_memory_ops}
use Rattle.wl_synth.specs.Encoding.{IsEncoded, EncodeFault}
use Rattle.wl_synth.specs.declared.error.SynthError.TheVariants.{Range}
use Rattle.wl_synth.specs.declared.calls.TheConstants.{UNREACHABLE_FUNCTION_BODY}
use Rattle.wl_ctors.specs.InitCalls.{AreInitCalls}
use Rattle.wl_ctors.specs.declared.calls.InitCall.{InitCall}
use Rattle.wl_bind.specs.EntryTypes.{type_of_entry}
use Rattle.wl_bind.specs.FunctionSpace.{FunctionEntry, FunctionOf, InitMemory, function_space}
use Rattle.wl_symbols.specs.Input.{Input}
use Rattle.wl_bind.specs.declared.binding.FunctionTarget.TheVariants.{Defined, Made, Host, Stub}
use Rattle.wl_symbols.specs.declared.relocated.FixupPlace.{FixupPlace}
use Rattle.wl_symbols.specs.declared.relocated.FixupPlace.TheVariants.{Code, Segment}
use Rattle.wl_symbols.specs.declared.relocated.Relocated.{Relocated}
use Rattle.wl_exports.specs.Exports.{ExportEntry, OfFunction}
use Rattle.wl_exports.specs.Wrappers.{wrapped}
use Rattle.wl_plan.specs.Functions.{own_functions}
use Rattle.wl_plan.specs.Threads.{IsThreadBlock}
use Rattle.wl_places.specs.Copies.{shared_copies}
use Rattle.wl_places.specs.SegmentNumbers.{new_number}
use Rattle.wl_places.specs.declared.placing.Placing.{Placing}

-- ---- numbers of segments in bodies

-- the bytes of a body, with those numbers in the place of its own
pub record IsRenumbered (input : Input) (g : Placing) (object : ℕ) (body bytes : List ℕ)
    : Type 0 where
  pub numbers : List DataIndexImm
  pub theirs : AreTold numbers body
  pub rewritten : Rewrites (new_number input g object) 0 numbers body bytes

-- where what stands at a place of a body stands, where segments have these numbers instead
pub record IsMovedBy (new_of : ℕ → Option ℕ) (body : List ℕ) (place new : ℕ) : Type 0 where
  pub numbers : List DataIndexImm
  pub theirs : AreTold numbers body
  pub moved : Moves new_of numbers place new

-- ---- bodies

-- the body of the function of that number that an object defines
abbrev pub body_in : Input → ℕ → ℕ → Option Body
body_in input object function =
    option_and_then (λ (o : Object). slice_get o.bodies function)
    (slice_get input.link.objects object)

-- that body, with the numbers that segments have in the output: a copy where it has any
pub record IsBodyIn (input : Input) (g : Placing) (object function : ℕ) (b : Body) : Type 0 where
  pub own : Body
  pub here : body_in input object function ≡ Some own
  pub bytes : IsRenumbered input g object own.bytes b.bytes
  pub owned : b.owned ≡ (own.owned || not (length bytes.numbers == 0))
  pub code_offset : b.code_offset ≡ own.code_offset
  pub object_index : b.object_index ≡ object

-- a body that the linker makes
pub record IsMadeBody (bytes : List ℕ) (b : Body) : Type 0 where
  pub bytes_are : b.bytes ≡ bytes
  pub owned : b.owned ≡ true
  pub code_offset : b.code_offset ≡ 0
  pub object_index : b.object_index ≡ 0

-- the function that is called, and how many results it has
abbrev pub called : InitCall → ℕ × ℕ
called call = (call.index, call.results)

-- the operators of a body that calls the functions that run at the start, in order, and drops what
-- they give
pub record AreCtorsOps (input : Input) (ops : List Op) : Type 0 where
  pub calls : List InitCall
  pub are_calls : AreInitCalls input calls
  pub are : ops ≡ call_sequence_ops (map called calls)

-- those of the body that makes the block of a thread
pub record AreInitTlsOps (input : Input) (g : Placing) (ops : List Op) : Type 0 where
  pub block : ThreadBlock
  pub is_block : IsThreadBlock input g block
  pub are : ops ≡ init_tls_ops block

-- those of the body that copies data for all threads
pub record AreInitMemoryOps (g : Placing) (ops : List Op) : Type 0 where
  pub flag : ℕ
  pub flag_is : g.places.flag ≡ Some flag
  pub are : ops ≡ init_memory_ops flag (shared_copies g)

-- those of the body of a function that the linker makes
abbrev pub AreMadeOps : Input → Placing → FunctionEntry → List Op → Type 0
AreMadeOps input g (FunctionOf (Made CallCtors)) ops = AreCtorsOps input ops
AreMadeOps input g (FunctionOf (Made InitTls)) ops = AreInitTlsOps input g ops
AreMadeOps input g InitMemory ops = AreInitMemoryOps g ops
AreMadeOps input g entry ops = ⊥

-- the body spells them
pub record IsEncodedBody (input : Input) (g : Placing) (entry : FunctionEntry) (b : Body)
    : Type 0 where
  pub ops : List Op
  pub are_ops : AreMadeOps input g entry ops
  pub bytes : List ℕ
  pub encoded : IsEncoded ops bytes
  pub made : IsMadeBody bytes b

-- the body of a function of the output: a stub stops the program
abbrev pub IsBodyOf : Input → Placing → FunctionEntry → Body → Type 0
IsBodyOf input g (FunctionOf (Defined object function)) b = IsBodyIn input g object function b
IsBodyOf input g (FunctionOf (Made m)) b = IsEncodedBody input g (FunctionOf (Made m)) b
IsBodyOf input g (FunctionOf (Host object slot)) b = ⊥
IsBodyOf input g (FunctionOf (Stub object slot)) b = IsMadeBody UNREACHABLE_FUNCTION_BODY b
IsBodyOf input g InitMemory b = IsEncodedBody input g InitMemory b

-- a constant of a body that the linker makes is too great
pub record IsBodyFault (input : Input) (g : Placing) (e : LinkError) : Type 0 where
  pub entry : FunctionEntry
  pub one : Contains (own_functions input) entry
  pub ops : List Op
  pub are_ops : AreMadeOps input g entry ops
  pub number : ℕ
  pub great : EncodeFault ops (Range number)
  pub told : e ≡ ConstantRange number

-- one for each function of the space that isn't imported, in order
abbrev pub AreOwnBodies : Input → Placing → List Body → Type 0
AreOwnBodies input g bodies = AllZip (IsBodyOf input g) (own_functions input) bodies

-- the body of the wrapper of an export: it calls what runs the constructors, and then what the
-- export leads to, with its own parameters
pub record IsWrapperBody (input : Input) (e : ExportEntry) (b : Body) : Type 0 where
  pub function : FunctionEntry
  pub leads : e.entity ≡ OfFunction function
  pub original : ℕ
  pub stands : slice_get (function_space input) original ≡ Some function
  pub constructors : ℕ
  pub are_made : slice_get (function_space input) constructors ≡ Some (FunctionOf (Made CallCtors))
  pub ty : FunctionType
  pub typed : type_of_entry input function ≡ Some ty
  pub bytes : List ℕ
  pub encoded : IsEncoded (wrapper_ops constructors original (length ty.params)) bytes
  pub made : IsMadeBody bytes b

-- a body for each function that isn't imported: those of the space, and after them the wrappers'
pub record AreBodies (input : Input) (g : Placing) (bodies : List Body) : Type 0 where
  pub own : List Body
  pub wrappers : List Body
  pub parts : bodies ≡ own ++ wrappers
  pub are_own : AreOwnBodies input g own
  pub are_wrappers : AllZip (IsWrapperBody input) (wrapped input) wrappers

-- ---- fields

-- the place of the field in what the output has: in data nothing moves
abbrev pub IsMovedAt : Input → Placing → FixupPlace → Relocated → ℕ → Type 0
IsMovedAt input g Segment r new = new ≡ r.site.position
IsMovedAt input g Code r new =
    (body : Body) × (body_in input r.object r.site.unit ≡ Some body)
    × IsMovedBy (new_number input g r.object) body.bytes r.site.position new

abbrev pub IsMovedIn : Input → Placing → Relocated → ℕ → Type 0
IsMovedIn input g r new = IsMovedAt input g r.place r new

-- ---- debug sections

-- the debug sections of the objects, the first of which has that number
abbrev pub object_debug_sections : ℕ → List Object → List DebugInput
object_debug_sections i [] = []
object_debug_sections i (o ∷ objects) =
    map (λ (section : DebugInput). record section { object_index = i }) o.debug_sections
    ++ object_debug_sections (i + 1) objects
