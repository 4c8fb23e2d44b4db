-- Local declarations, as runs of locals of one type.
use Rattle.std.specs.Prelude.{◌≡◌, ℕ, ◌==◌, not, Bool, ◌++◌, List, Result, Ok}
use Rattle.std.specs.List.{filter}
use Rattle.std.specs.Option.{unwrap_or}
use Rattle.wl_bytes.specs.Cursor.{Cursor}
use Rattle.wl_bytes.specs.Parse.{◌>>=◌}
use Rattle.wl_bytes.specs.Grammar.{map_at}
use Rattle.wl_bytes.specs.declared.read_error.ReadError.{ReadError}
use Rattle.wl_module.specs.declared.types.ValType.TheVariants.{I32}
use Rattle.wl_module.specs.Types.{value_type_of}
use Rattle.wl_bytes.specs.Lists.{Listed, list_at, start}
use Rattle.wl_bytes.specs.Checks.{Seen}
use Rattle.wl_ops.specs.Decoding.{IsLocal, local_at}
use Rattle.wl_load.specs.declared.code.LocalRun.{LocalRun}

-- how many, and their type by its byte; a declaration has no other bytes than those of types
abbrev pub run_of : ℕ × ℕ → LocalRun
run_of p = record { count = p.0; value_type = unwrap_or (value_type_of p.1) I32 }

-- what spells a run, and the list of them
abbrev pub IsLocalRun : ℕ → LocalRun → List ℕ → Type 0
IsLocalRun = Seen IsLocal run_of

abbrev pub AreLocalRuns : ℕ → List LocalRun → List ℕ → Type 0
AreLocalRuns = Listed IsLocalRun

-- A declaration of no locals declares none, whatever its type.
abbrev pub has_locals : LocalRun → Bool
has_locals l = not (l.count == 0)

-- the runs of locals that are declared
abbrev pub with_locals : List LocalRun → List LocalRun
with_locals runs = filter has_locals runs

-- the locals that a body declares: the declarations come first
abbrev pub Declares : List ℕ → List LocalRun → Type 0
Declares body locals =
    (runs : List LocalRun) × (front : List ℕ) × (back : List ℕ) × (body ≡ front ++ back)
    × AreLocalRuns 0 runs front × (locals ≡ with_locals runs)

-- the next run
unfoldable pub local_run_at : Cursor → Result (LocalRun × Cursor) ReadError
local_run_at c = map_at run_of local_at c

-- the next list
abbrev pub local_runs_at : Cursor → Result (List LocalRun × Cursor) ReadError
local_runs_at c = list_at local_run_at c

-- the list at the start of a body
abbrev pub runs_of : List ℕ → Result (List LocalRun) ReadError
runs_of body = local_runs_at (start body) >>= λ p. Ok p.0
