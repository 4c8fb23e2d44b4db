-- Why a file wasn't read.
use Rattle.std.specs.Prelude.{◌≡◌, ◌≢◌, ◌<◌, ◌≤◌, ℕ, List, true, Result, IfErr, ⊤}
use Rattle.wl_files.specs.Causes.{Rose}
use Rattle.wl_files.specs.Files.{FilesState}
use Rattle.wl_files.specs.Reading.{HoldsMoreThan, GetsTooMuch}
use Rattle.wl_files.specs.declared.read.ReadObject.{ReadObject}
use Rattle.wl_files.specs.declared.read.ReadObject.TheVariants.{OutOfMemory, Fault, TooLong}

-- a fault of the outside: the count rose, and a call since the last begin failed
pub record IsFailure (old new : FilesState) : Type 0 where
  pub rose : Rose old.faults new.faults
  pub here : new.failed ≡ true

-- more bytes came than the limit, and no call failed
pub record IsTooLong (old new : FilesState) (name : List ℕ) (limit : ℕ) : Type 0 where
  pub given : limit < new.given
  pub clean : new.faults ≡ old.faults
  pub told : HoldsMoreThan old.names name limit

-- why a file wasn't read; want of memory is free
abbrev pub IsUnreadFor : FilesState → FilesState → List ℕ → ℕ → ReadObject → Type 0
IsUnreadFor old new name limit OutOfMemory = ⊤
IsUnreadFor old new name limit Fault = IsFailure old new × (new.given ≤ limit)
IsUnreadFor old new name limit TooLong = IsTooLong old new name limit

-- the same of one read
abbrev pub StopsFor : FilesState → FilesState → List ℕ → ℕ → ReadObject → Type 0
StopsFor old new bytes limit OutOfMemory = ⊤
StopsFor old new bytes limit Fault = IsFailure old new × (new.given ≡ old.given)
StopsFor old new bytes limit TooLong = GetsTooMuch old new bytes limit

-- whatever came of it, it was no fault of the outside
abbrev pub IsNoFault : {T : Type 0} → Result T ReadObject → Type 0
IsNoFault result = IfErr result (λ e. e ≢ Fault)
