-- What runs of functions do that the linker makes of calls: each call on what the one before left.
use Rattle.std.specs.Prelude.{◌≡◌, ◌⊎◌, ℕ, true, List, [], ◌∷◌, ◌++◌, map, length, reverse, Some}
use Rattle.std.specs.List.{AllByRecursion}
use Rattle.wl_module.specs.Types.{FunctionType}
use Rattle.wl_numeric.specs.declared.value.Value.{Value}
use Rattle.wl_synth.specs.Machine.{Value as BodyValue, State, Call, Done as BodyDone, Runs as BodyRuns}
use Rattle.wl_synth.specs.Calls.{plain_call}
use Rattle.wl_synth.specs.Encoding.{IsEncoded}
use Rattle.wl_synth.specs.Bodies.{call_sequence_ops, wrapper_ops}
use Rattle.wl_load.specs.declared.program.Program.{Program}
use Rattle.wl_load.specs.declared.store.Store.{Store}
use Rattle.wl_load.specs.declared.run_end.RunEnd.{RunEnd}
use Rattle.wl_load.specs.declared.run_end.RunEnd.TheVariants.{Done}
use Rattle.wl_load.specs.Values.{have_types}
use Rattle.wl_load.specs.Images.{type_of, is_known}
use Rattle.wl_load.specs.States.{OpenCall}
use Rattle.wl_load.specs.Agreement.{as_value, body_value, state_of, world_of, IsLoaded, called, returned, ComesTo, RunsTo}

-- a function without parameters, and with so many results
abbrev pub TakesNothing : Program → ℕ × ℕ → Type 0
TakesNothing p q =
    (type : FunctionType) × (type_of p q.0 ≡ Some type) × (type.params ≡ [])
    × (length type.results ≡ q.1)

-- a function of integers alone
abbrev pub IsKnown : Program → ℕ → Type 0
IsKnown p f = (type : FunctionType) × (type_of p f ≡ Some type) × (is_known p f type ≡ true)

-- no results are returned
abbrev pub IsStop : RunEnd → Type 0
IsStop (Done vs) = ⊥
IsStop e = Unit {0}

-- a call as a run by itself
abbrev pub CallRuns : Program → Call → Store → RunEnd → Store → Type 0
CallRuns p c store e after = RunsTo p c.function (map as_value c.arguments) store e after

-- Calls are run in turn, each on the store that the one before left, and each returns results.
abbrev pub ComeBack : Program → List Call → Store → Store → Type 0
ComeBack p [] store after = after ≡ store
ComeBack p (c ∷ cs) store after = (results : List Value) × (mid : Store)
    × CallRuns p c store (Done results) mid × ComeBack p cs mid after

-- One of them ends otherwise, and those before it come back.
abbrev pub OneStops : Program → List Call → Store → RunEnd → Store → Type 0
OneStops p [] store e after = ⊥
OneStops p (c ∷ cs) store e after =
    (IsStop e × IsKnown p c.function × CallRuns p c store e after)
    ⊎ ((results : List Value) × (mid : Store)
    × CallRuns p c store (Done results) mid × OneStops p cs mid e after)

-- Calls that a body has noted, after others, do what they are taken to answer: each is run on the
-- store that the one before left, and returns just that.
abbrev pub CallsAgree : Program → (List Call → List BodyValue) → List Call → List Call → Store
    → Store → Type 0
CallsAgree p answer made [] store after = after ≡ store
CallsAgree p answer made (c ∷ cs) store after = (mid : Store)
    × CallRuns p c store (Done (map as_value (answer (made ++ c ∷ [])))) mid
    × CallsAgree p answer (made ++ c ∷ []) cs mid after

-- Where the calls agree that the run of a function's body has noted, a call of the function comes
-- to what the body leaves, and to the store that they leave.
abbrev pub AgreesByCalls : Program → (List Call → List BodyValue) → ℕ → FunctionType → List ℕ
    → Type 0
AgreesByCalls p answer f type body = (h : IsLoaded p f type body) (arguments : List Value)
    (store after : Store) (waiting : List OpenCall) (t : State)
    → have_types arguments type.params ≡ true
    → BodyRuns (world_of p answer) (length type.results) body (state_of arguments store)
    (BodyDone t)
    → CallsAgree p answer [] t.calls store after
    → ComesTo p (called f h.code arguments waiting store)
    (returned (map as_value (reverse t.stack)) waiting after)

-- ---- the functions that are made of calls

-- The function calls these functions in turn, each of which has so many results.
pub record CallsInTurn (p : Program) (f : ℕ) (calls : List (ℕ × ℕ)) : Type 0 where
  pub type : FunctionType
  pub body : List ℕ
  pub loaded : IsLoaded p f type body
  pub no_results : type.results ≡ []
  pub encoded : IsEncoded (call_sequence_ops calls) body
  pub plain : AllByRecursion (TakesNothing p) calls

-- the calls that it makes
abbrev pub calls_of : List (ℕ × ℕ) → List Call
calls_of calls = map (λ p. plain_call p.0) calls

-- The function is a wrapper of another one, of the same type.
pub record IsWrapper (p : Program) (f call_ctors original : ℕ) (type : FunctionType) : Type 0 where
  pub body : List ℕ
  pub loaded : IsLoaded p f type body
  pub encoded : IsEncoded (wrapper_ops call_ctors original (length type.params)) body
  pub constructors : TakesNothing p (call_ctors, 0)
  pub typed : type_of p original ≡ Some type

-- what a wrapper calls: the constructors, and then its function with its own arguments
abbrev pub wrapper_calls : ℕ → ℕ → List Value → List Call
wrapper_calls call_ctors original arguments =
    plain_call call_ctors
    ∷ record { function = original; arguments = map body_value arguments } ∷ []
