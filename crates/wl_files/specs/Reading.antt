-- What is known of a file that was read.
use Rattle.std.specs.Prelude.{◌≡◌, ◌<◌, ◌≤◌, ◌+◌, Bool, true, false, ℕ, List, Option, Some, None, length, ◌++◌, ⊤}
use Rattle.std.specs.Io.KnownBytes.{Consumes, IsAtEnd}
use Rattle.wl_files.specs.Files.{Names, FilesState}

-- where it is known: the name has these bytes
abbrev pub HoldsBytes : Option Names → List ℕ → List ℕ → Type 0
HoldsBytes None name bytes = ⊤
HoldsBytes (Some names) name bytes = names name ≡ Some bytes

-- where it is known: the name has more than so many bytes
abbrev pub HoldsMoreThan : Option Names → List ℕ → ℕ → Type 0
HoldsMoreThan None name limit = ⊤
HoldsMoreThan (Some names) name limit =
    (bytes : List ℕ) × (names name ≡ Some bytes) × (limit < length bytes)

-- the same file is open, and the count has not fallen
pub record SameFile (old new : FilesState) : Type 0 where
  pub begun : new.begun ≡ old.begun
  pub closed : new.closed ≡ old.closed
  pub names : new.names ≡ old.names
  pub later : old.faults ≤ new.faults

-- no call failed
pub record IsClean (old new : FilesState) : Type 0 where
  pub faults : new.faults ≡ old.faults
  pub failed : new.failed ≡ old.failed

-- a read appended its piece to the bytes
pub record GetsMore (old new : FilesState) (bytes bytes' : List ℕ) (ended : Bool) : Type 0 where
  pub piece : (piece : List ℕ) × (bytes' ≡ bytes ++ piece) × Consumes old.rest new.rest piece
  pub given : new.given + length bytes ≡ old.given + length bytes'
  pub progress : ended ≡ false → length bytes < length bytes'
  pub at_end : ended ≡ true → IsAtEnd new.rest

-- a read gave more than there is room for, without a fault
pub record GetsTooMuch (old new : FilesState) (bytes : List ℕ) (limit : ℕ) : Type 0 where
  pub piece : (piece : List ℕ) × Consumes old.rest new.rest piece
      × (limit < length bytes + length piece)
  pub given : limit + old.given < new.given + length bytes
  pub clean : new.faults ≡ old.faults
