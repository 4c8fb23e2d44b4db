-- Files in memory.
use Rattle.std.specs.Prelude.{◌≡◌, ◌==◌, ◌-◌, ◌^◌, ℕ, List, [], Bool, false, Some, None, length, min, if◌then◌else◌}
use Rattle.std.specs.List.{list_any}
use Rattle.std.specs.Option.{option_copied, option_or}
use Rattle.std.specs.Str.{bytes_eq}
use Rattle.wl_files.specs.Causes.{one_more}
use Rattle.wl_files.specs.Files.{Names, FilesState}
use Rattle.wl_files.specs.Held.{held, left_of}
use Rattle.wl_files.specs.declared.mem_files.MemFiles.{MemFiles}

-- what each name holds
abbrev pub held_by : MemFiles → Names
held_by s = held s.files.items

-- the calls that are to fail, counted from 1
abbrev pub failing_calls : MemFiles → List ℕ
failing_calls s = s.fails.items

-- how many bytes a read gives at most
abbrev pub read_limit : MemFiles → ℕ
read_limit s = s.piece

-- how many calls were made, begins and reads together
abbrev pub calls_made : MemFiles → ℕ
calls_made s = s.calls

-- the next call is one of those that are to fail
abbrev pub call_is_to_fail : MemFiles → Bool
call_is_to_fail s = list_any (λ call. call == one_more (calls_made s)) (failing_calls s)

-- what is left of the current file
abbrev pub bytes_left : MemFiles → List ℕ
bytes_left s = left_of s.files.items s.place s.given

-- how many bytes a read gives into a buffer of this length
abbrev pub read_count : MemFiles → ℕ → ℕ
read_count s room = min (min (length (bytes_left s)) (read_limit s)) room

-- they say what each name holds, and what is left of the current file
abbrev pub files_state : MemFiles → FilesState
files_state s = record {
  begun = option_copied s.name;
  closed = s.closed;
  failed = s.failed;
  given = s.given;
  faults = s.faults;
  names = Some (held s.files.items);
  rest = Some (bytes_left s);
}

-- no call is to fail
abbrev pub IsCalm : MemFiles → Type 0
IsCalm s = s.fails.items ≡ []

-- no name holds anything, no call was made, none is to fail, and reads are as long as can be
pub record IsNewFiles (s : MemFiles) : Type 0 where
  pub names : (name : List ℕ) → held_by s name ≡ None
  pub begun : (files_state s).begun ≡ None
  pub closed : (files_state s).closed ≡ false
  pub faults : (files_state s).faults ≡ 0
  pub failing : failing_calls s ≡ []
  pub calls : calls_made s ≡ 0
  pub limit : read_limit s ≡ 2 ^ 64 - 1

-- one name more, unless it is there already
abbrev pub AddsFile : Names → Names → List ℕ → List ℕ → Type 0
AddsFile old new name bytes =
    (other : List ℕ)
    → new other ≡ option_or (old other) (if bytes_eq name other then Some bytes else None)

-- a call was made, and what was set for the calls stays
pub record IsOneCall (old new : MemFiles) : Type 0 where
  pub made : calls_made new ≡ one_more (calls_made old)
  pub failing : failing_calls new ≡ failing_calls old
  pub limit : read_limit new ≡ read_limit old

-- the current file is read on as before
pub record IsSameReading (old new : FilesState) : Type 0 where
  pub begun : new.begun ≡ old.begun
  pub closed : new.closed ≡ old.closed
  pub failed : new.failed ≡ old.failed
  pub given : new.given ≡ old.given
  pub faults : new.faults ≡ old.faults
  pub rest : new.rest ≡ old.rest
