-- Runs of a function after the one that runs at the start.
use Rattle.std.specs.Prelude.{◌≡◌, ℕ, [], Option, Some, None}
use Rattle.wl_load.specs.Images.{LoadedImage}
use Rattle.wl_load.specs.Running.{Runs, run_of}
use Rattle.wl_load.specs.declared.run_end.RunEnd.{RunEnd}
use Rattle.wl_load.specs.declared.run_end.RunEnd.TheVariants.{Done, Trap, Waits, Host, OutOfFuel, Foreign, Invalid, OutOfMemory}
use Rattle.wl_load.specs.declared.store.Store.{Store}
use Rattle.wl_run.specs.declared.turns.TheConstants.{FUEL}

-- a run of a function without arguments ends so, and leaves this
abbrev pub EndsSo : LoadedImage → ℕ → RunEnd → Store → Type 0
EndsSo image f end store = Runs (run_of image f []) FUEL end store

-- what a run has left of an image
abbrev pub left : LoadedImage → Store → LoadedImage
left image store = record { program = image.program; store = store }

-- after a run that is done another one gives the end, and else that run does
abbrev pub EndsBehind : RunEnd → (RunEnd → Type 0) → RunEnd → Type 0
EndsBehind (Done results) next end = next end
EndsBehind (Trap kind) next end = end ≡ Trap kind
EndsBehind Waits next end = end ≡ Waits
EndsBehind (Host import) next end = end ≡ Host import
EndsBehind OutOfFuel next end = end ≡ OutOfFuel
EndsBehind (Foreign function operator) next end = end ≡ Foreign function operator
EndsBehind (Invalid function operator) next end = end ≡ Invalid function operator
EndsBehind (OutOfMemory count) next end = end ≡ OutOfMemory count

-- a run of the function ends so
abbrev pub Ends : LoadedImage → ℕ → RunEnd → Type 0
Ends image f end = (store : Store) × EndsSo image f end store

-- the function at the start runs, where there is one, and then the other on what it has left: the
-- first run that isn't done ends so, or the last one where all are
abbrev pub RunsInTurn : LoadedImage → Option ℕ → ℕ → RunEnd → Type 0
RunsInTurn image None f end = Ends image f end
RunsInTurn image (Some s) f end =
    (first : RunEnd) × (store : Store) × EndsSo image s first store
    × EndsBehind first (Ends (left image store) f) end
