-- The steps of a plan, each of which may refuse: the first that has a cause decides.
use Rattle.std.specs.Prelude.{◌≢◌}
use Rattle.wl_linking.specs.declared.error.LinkError.{LinkError}
use Rattle.wl_linking.specs.declared.error.LinkError.TheVariants.{OutOfMemory}

-- a step has no cause
pub record Clear (cause : LinkError → Type 0) : Type 0 where
  pub none : (e : LinkError) → cause e → ⊥

-- the cause of a step, or, where it has none, one of the steps after it
pub data Step (cause rest : LinkError → Type 0) (e : LinkError) : Type 0 where
  here : cause e → Step cause rest e
  behind : Clear cause → rest e → Step cause rest e

-- after the last step there is no cause
abbrev pub NoStep : LinkError → Type 0
NoStep e = ⊥

-- a refusal has its cause; want of memory is free
pub record Refuses (cause : LinkError → Type 0) (e : LinkError) : Type 0 where
  pub cause_is : e ≢ OutOfMemory → cause e
