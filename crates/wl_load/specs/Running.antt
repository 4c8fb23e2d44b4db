-- Runs of a function of an image.
use Rattle.std.specs.Prelude.{◌≡◌, ◌≤◌, ℕ, Bool, false, if◌then◌else◌, List, [], Option, None, Some, Result, Ok, Err}
use Rattle.wl_bytes.specs.Parse.{◌>>=◌}
use Rattle.wl_module.specs.Types.{FunctionType}
use Rattle.wl_numeric.specs.declared.value.Value.{Value}
use Rattle.wl_load.specs.declared.program.Program.{Program}
use Rattle.wl_load.specs.declared.store.Store.{Store}
use Rattle.wl_load.specs.declared.stop.Stop.{Stop}
use Rattle.wl_load.specs.declared.stop.Stop.TheVariants.{Foreign, Host}
use Rattle.wl_load.specs.declared.run_end.RunEnd.{RunEnd}
use Rattle.wl_load.specs.declared.run_end.RunEnd.TheVariants.{Done, Trap, Waits, Host as HostEnd, OutOfFuel, Foreign as ForeignEnd, Invalid as InvalidEnd, OutOfMemory}
use Rattle.wl_load.specs.Codes.{Code}
use Rattle.wl_load.specs.Values.{have_types}
use Rattle.wl_load.specs.Images.{LoadedImage, is_host, code_of, type_of, is_known}
use Rattle.wl_load.specs.States.{Calls, Machine, begun}
use Rattle.wl_load.specs.Control.{found}
use Rattle.wl_load.specs.Storage.{machine}
use Rattle.wl_load.specs.Steps.{Progress, Going, Ended, end_of, exec}

-- ---- what is asked for

-- the function is there, and the arguments have the types of its parameters
abbrev pub takes : Option FunctionType → List Value → Bool
takes None arguments = false
takes (Some t) arguments = have_types arguments t.params

abbrev pub can_run : LoadedImage → ℕ → List Value → Bool
can_run image f arguments = takes (type_of image.program f) arguments

-- ---- the start

-- the code of the function that is to run: one that is known, and not the host's
abbrev pub own_code : Program → ℕ → Result Code Stop
own_code p f = if is_host p f then Err (Host f) else found (code_of p f)

abbrev pub start_code : Program → ℕ → Result Code Stop
start_code p f =
    found (type_of p f) >>= λ t. if is_known p f t then own_code p f else Err Foreign

-- no call waits
abbrev pub alone : ℕ → List Value → Code → Calls
alone f arguments code = record { running = begun f code arguments; waiting = [] }

-- n operators of a run at most
abbrev pub begin_run : Result Code Stop → LoadedImage → ℕ → List Value → ℕ → Progress
begin_run (Ok code) image f arguments n =
    exec image.program n (machine (alone f arguments code) image.store)
begin_run (Err stop) image f arguments n = Ended (end_of f 0 0 stop) image.store

abbrev pub run_of : LoadedImage → ℕ → List Value → ℕ → Progress
run_of image f arguments n = begin_run (start_code image.program f) image f arguments n

-- ---- the end

-- it hasn't ended, and has left this
abbrev pub IsGoing : Progress → Store → Type 0
IsGoing progress store = (m : Machine) × (progress ≡ Going m) × (m.store ≡ store)

-- How a run ends that has so much fuel, and what it leaves, by what so many operators do.
abbrev pub Runs : (ℕ → Progress) → ℕ → RunEnd → Store → Type 0
Runs run fuel (Done vs) store = run fuel ≡ Ended (Done vs) store
Runs run fuel (Trap kind) store = run fuel ≡ Ended (Trap kind) store
Runs run fuel Waits store = run fuel ≡ Ended Waits store
Runs run fuel (HostEnd f) store = run fuel ≡ Ended (HostEnd f) store
Runs run fuel (ForeignEnd f place) store = run fuel ≡ Ended (ForeignEnd f place) store
Runs run fuel (InvalidEnd f place) store = run fuel ≡ Ended (InvalidEnd f place) store
Runs run fuel OutOfFuel store = IsGoing (run fuel) store
Runs run fuel (OutOfMemory k) store = (k ≤ fuel) × IsGoing (run k) store
