-- How runs of the functions that the linker makes agree with the machine of wl_synth, which runs
-- one body by itself: values, stores and ends of the one as those of the other.
use Rattle.std.specs.Prelude.{◌≡◌, ℕ, true, List, [], ◌∷◌, ◌++◌, map, Some, Ok}
use Rattle.wl_module.specs.Types.{FunctionType}
use Rattle.wl_ops.specs.Decoding.{AreTaken}
use Rattle.wl_numeric.specs.declared.value.Value.{Value}
use Rattle.wl_numeric.specs.declared.value.Value.TheVariants.{I32, I64}
use Rattle.wl_numeric.specs.declared.value.TrapKind.{TrapKind}
use Rattle.wl_synth.specs.Machine.{Value as BodyValue, I32 as BodyI32, I64 as BodyI64, State, World, Call, Outcome, Done as BodyDone, Trap as BodyTrap, Waits as BodyWaits, left_bytes, Runs as BodyRuns}
use Rattle.wl_load.specs.declared.program.Program.{Program}
use Rattle.wl_load.specs.declared.store.Store.{Store}
use Rattle.wl_load.specs.declared.run_end.RunEnd.{RunEnd}
use Rattle.wl_load.specs.declared.run_end.RunEnd.TheVariants.{Done, Trap, Waits}
use Rattle.wl_load.specs.Codes.{Code}
use Rattle.wl_load.specs.Images.{type_of}
use Rattle.wl_load.specs.States.{OpenCall, Machine, call_with, begun}
use Rattle.wl_load.specs.Storage.{machine}
use Rattle.wl_load.specs.Steps.{Progress, Going, Ended, exec}
use Rattle.wl_load.specs.Running.{start_code, run_of}

-- ---- the states of the two machines

-- a value of the machine that runs a body, as one of an image, and back
abbrev pub as_value : BodyValue → Value
as_value (BodyI32 n) = I32 n
as_value (BodyI64 n) = I64 n

abbrev pub body_value : Value → BodyValue
body_value (I32 n) = BodyI32 n
body_value (I64 n) = BodyI64 n

-- its store: a segment that was dropped has no bytes
abbrev pub store_of : State → Store
store_of s =
    record {
      memory = s.memory;
      globals = map as_value s.globals;
      segments = map left_bytes s.segments;
    }

-- the state in which a body begins that has these arguments and no other locals, on this store
abbrev pub state_of : List Value → Store → State
state_of arguments store =
    record {
      stack = [];
      locals = map body_value arguments;
      globals = map body_value store.globals;
      memory = store.memory;
      segments = map Some store.segments;
      labels = [];
      calls = [];
      skipped = 0;
    }

-- The module round a body is the image's: its types, whether memory is shared, and no other thread.
-- Calls answer so.
abbrev pub world_of : Program → (List Call → List BodyValue) → World
world_of p answer =
    record {
      type_of = type_of p;
      is_mutable = λ i. true;
      is_shared = p.is_shared;
      answer = answer;
      waiting = λ place. 0;
    }

-- the answers where no call is made
abbrev pub silent : List Call → List BodyValue
silent calls = []

-- ---- functions

-- The function can be run: it is there, of this type, not the host's, and its parameters and other
-- locals are integers.
pub record IsFunction (p : Program) (f : ℕ) (type : FunctionType) (code : Code) : Type 0 where
  pub typed : type_of p f ≡ Some type
  pub starts : start_code p f ≡ Ok code

-- The function can be run, declares no locals, and its operators are those of the body.
pub record IsLoaded (p : Program) (f : ℕ) (type : FunctionType) (body : List ℕ) : Type 0 where
  pub code : Code
  pub is_function : IsFunction p f type code
  pub operators : AreTaken code.ops body
  pub no_locals : code.locals ≡ []

-- a function is called with these arguments, by the first of the calls that wait or by none
abbrev pub called : ℕ → Code → List Value → List OpenCall → Store → Machine
called f code arguments waiting store =
    machine (record { running = begun f code arguments; waiting = waiting }) store

-- ---- how calls end

-- Results are returned: the caller goes on with them, and where no call waits the run is done.
abbrev pub returned : List Value → List OpenCall → Store → Progress
returned vs [] store = Ended (Done vs) store
returned vs (c ∷ cs) store =
    Going (machine (record { running = call_with (c.block.operands ++ vs) c; waiting = cs }) store)

-- a call ends as its function does where it is run by itself
abbrev pub ended : RunEnd → List OpenCall → Store → Progress
ended (Done vs) waiting store = returned vs waiting store
ended e waiting store = Ended e store

-- so many steps come to this
abbrev pub ComesTo : Program → Machine → Progress → Type 0
ComesTo p m progress = (n : ℕ) × (exec p n m ≡ progress)

-- A function that is run by itself, on a store and with these arguments, ends so and leaves this.
abbrev pub RunsTo : Program → ℕ → List Value → Store → RunEnd → Store → Type 0
RunsTo p f arguments store e after =
    (n : ℕ) × (run_of (record { program = p; store = store }) f arguments n ≡ Ended e after)

-- by the outcome of its body, a call of a function without results comes to this
abbrev pub ComesToOutcome : Program → Machine → List OpenCall → Outcome → Type 0
ComesToOutcome p m waiting (BodyDone t) = ComesTo p m (returned [] waiting (store_of t))
ComesToOutcome p m waiting (BodyTrap t) =
    (kind : TrapKind) × ComesTo p m (Ended (Trap kind) (store_of t))
ComesToOutcome p m waiting (BodyWaits t) = ComesTo p m (Ended Waits (store_of t))

-- Where the body is that of a function without results, a call comes to the outcome that the body
-- has by itself from the same arguments and store, whatever calls wait.
abbrev pub Agrees : List ℕ → Type 0
Agrees body = (p : Program) (f : ℕ) (type : FunctionType) (h : IsLoaded p f type body)
    (answer : List Call → List BodyValue) (arguments : List Value) (store : Store)
    (waiting : List OpenCall) (o : Outcome) → type.results ≡ []
    → BodyRuns (world_of p answer) 0 body (state_of arguments store) o
    → ComesToOutcome p (called f h.code arguments waiting store) waiting o
