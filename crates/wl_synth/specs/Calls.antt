-- What runs of bodies that call functions do, and of the two short bodies.
use Rattle.std.specs.Prelude.{◌≡◌, ℕ, true, List, [], ◌∷◌, ◌++◌, length, reverse, map, Some}
use Rattle.wl_module.specs.Types.{FunctionType}
use Rattle.wl_synth.specs.Machine.{Value, World, State, Call, Done, Trap, have_types, entered, Runs}

-- ---- calls and their answers

-- a call without arguments
abbrev pub plain_call : ℕ → Call
plain_call f = record { function = f; arguments = [] }

-- calls end with results of their type
abbrev pub AnswerByType : World → Type 0
AnswerByType w = (calls : List Call) (call : Call) (type : FunctionType)
    → w.type_of call.function ≡ Some type
    → have_types (w.answer (calls ++ call ∷ [])) type.results ≡ true

-- the function has no parameters and so many results
abbrev pub HasResults : World → ℕ × ℕ → Type 0
HasResults w p = (type : FunctionType)
    × (w.type_of p.0 ≡ Some type) × (type.params ≡ []) × (length type.results ≡ p.1)

-- ---- the outcomes

-- a function ends with these values, and all else is as it was, but for the calls that were made
abbrev pub returned : State → List Value → List Call → State
returned s values calls =
    record s { stack = reverse values; labels = []; calls = s.calls ++ calls; skipped = 0 }

-- The body of a sequence of calls makes exactly these, in order, and ends with an empty stack.
abbrev pub MakesCalls : World → State → List (ℕ × ℕ) → List ℕ → Type 0
MakesCalls w s calls body = Runs w 0 body s (Done (returned s [] (map (λ p. plain_call p.0) calls)))

-- what a wrapper calls: the constructors, and then its function with its own arguments
abbrev pub wrapped_calls : ℕ → ℕ → State → List Call
wrapped_calls call_ctors original s =
    plain_call call_ctors ∷ record { function = original; arguments = s.locals } ∷ []

-- A wrapper of a function of this type makes these two calls, and ends with just the results of
-- the second.
abbrev pub Wraps : World → State → List Call → FunctionType → List ℕ → Type 0
Wraps w s calls type body =
    Runs w (length type.results) body s (Done (returned s (w.answer (s.calls ++ calls)) calls))

-- Wherever the body is run it traps at once.
abbrev pub TrapsAtOnce : List ℕ → Type 0
TrapsAtOnce body = (w : World) (s : State) (results : ℕ)
    → Runs w results body s (Trap (entered results s))

-- Wherever the body is run it ends, and changes nothing.
abbrev pub DoesNothing : List ℕ → Type 0
DoesNothing body = (w : World) (s : State) → Runs w 0 body s (Done (returned s [] []))
