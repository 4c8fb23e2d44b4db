-- What is reported of a run of a function of a plan.
use Rattle.std.specs.Prelude.{◌≡◌, ℕ, Bool, true, false, ◌&&◌, List, [], codes, find, Option, Some, None, option_map}
use Rattle.std.specs.Str.{bytes_eq}
use Rattle.wl_module.specs.Exports.{Exported}
use Rattle.wl_module.specs.declared.imports.ExternalKind.{ExternalKind}
use Rattle.wl_module.specs.declared.imports.ExternalKind.TheVariants.{Func, Table, Memory, Global}
use Rattle.wl_load.specs.Images.{LoadedImage}
use Rattle.wl_load.specs.Running.{can_run}
use Rattle.wl_load.specs.declared.error.LoadError.{LoadError}
use Rattle.wl_load.specs.declared.run_end.RunEnd.{RunEnd}
use Rattle.wl_plan.specs.declared.layout.LinkPlan.{LinkPlan}
use Rattle.wl_run.specs.Lines.{IsEndLine, IsLoadLine}
use Rattle.wl_run.specs.Turns.{RunsInTurn}
use Rattle.wildplan.specs.Loading.{IsLoaded, IsNotLoaded}

-- ---- the function

-- it is a function's export
abbrev pub is_function : ExternalKind → Bool
is_function Func = true
is_function Table = false
is_function Memory = false
is_function Global = false

-- a function under that name
abbrev pub is_function_named : List ℕ → Exported → Bool
is_function_named name e = is_function e.kind && bytes_eq e.name name

-- its number, where there is one
abbrev pub exported_function : List Exported → List ℕ → Option ℕ
exported_function exports name =
    option_map (λ (e : Exported). e.index) (find (is_function_named name) exports)

-- ---- arguments

-- the function at the start, where there is one, can be run without arguments
abbrev pub can_start : LoadedImage → Option ℕ → Bool
can_start image None = true
can_start image (Some s) = can_run image s []

-- so can both
abbrev pub can_take_turns : LoadedImage → Option ℕ → ℕ → Bool
can_take_turns image start f = can_run image f [] && can_start image start

-- ---- the line

-- What is reported of the run of the function that a plan exports under a name.
pub data IsRunText (plan : LinkPlan) (name : List ℕ) (text : List ℕ) : Type 0 where
  -- the plan isn't loaded
  refused : (e : LoadError) → IsNotLoaded plan e → IsLoadLine e text → IsRunText plan name text
  -- no function is exported so
  missing : (image : LoadedImage) → IsLoaded plan image
      → exported_function plan.layout.exports name ≡ None
      → text ≡ codes "none\n" → IsRunText plan name text
  -- it takes arguments, or the one at the start does, which is none of a plan
  taking : (image : LoadedImage) (f : ℕ) → IsLoaded plan image
      → exported_function plan.layout.exports name ≡ Some f
      → can_take_turns image plan.layout.start_function f ≡ false
      → text ≡ codes "arguments\n" → IsRunText plan name text
  -- the function at the start ran, and then it
  ran : (image : LoadedImage) (f : ℕ) (end : RunEnd) → IsLoaded plan image
      → exported_function plan.layout.exports name ≡ Some f
      → can_take_turns image plan.layout.start_function f ≡ true
      → RunsInTurn image plan.layout.start_function f end
      → IsEndLine end text → IsRunText plan name text
