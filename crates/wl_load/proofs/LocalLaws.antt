-- The local declarations of a body that is decoded are read.
use Rattle.std.proofs.Common.{◌≡◌, ℕ, ◌+◌, List, [], ◌∷◌, length, map, Ok, Err, refl, sym, ◌∙◌, subst, arith}
use Rattle.std.proofs.lemmas.List.{length-map}
use Rattle.wl_bytes.specs.Cursor.{Cursor}
use Rattle.wl_bytes.specs.Parse.{Takes}
use Rattle.wl_bytes.specs.Leb.{IsU32}
use Rattle.wl_bytes.specs.Items.{IsByte}
use Rattle.wl_bytes.specs.Grammar.{Items}
use Rattle.wl_bytes.proofs.Readings.{IsReading}
use Rattle.wl_bytes.proofs.Steps.{bind_ok, ok_is}
use Rattle.wl_bytes.specs.declared.read_error.Why.TheVariants.{BadByte}
use Rattle.wl_bytes.specs.declared.read_error.ReadError.TheVariants.{OutOfMemory, Malformed, Unsupported}
use Rattle.wl_bytes.specs.declared.read_error.ReadError.{ReadError}
use Rattle.wl_bytes.specs.Outcome.{Fails, HasCause}
use Rattle.wl_bytes.specs.Lists.{ByteFault, one_byte_at, ListedFault, start}
use Rattle.wl_bytes.proofs.ReadingLaws.{both, seen}
use Rattle.wl_bytes.proofs.ListLaws.{number_reading, one_byte_reading, list_reading}
use Rattle.wl_bytes.proofs.CheckLaws.{where_reading}
use Rattle.wl_ops.specs.declared.op.Op.{Op}
use Rattle.wl_ops.specs.Immediates.{is_value_type}
use Rattle.wl_ops.specs.Decoding.{IsLocal, LocalFault, local_at, AreLocals, AreTaken, DecodeFault}
use Rattle.wl_load.specs.declared.code.LocalRun.{LocalRun}
use Rattle.wl_load.specs.LocalRuns.{run_of, IsLocalRun, AreLocalRuns, with_locals, Declares, local_run_at, local_runs_at, runs_of}

local_run_reading : IsReading IsLocalRun LocalFault local_run_at
unfolding local_run_at local_at
local_run_reading = seen run_of (both number_reading (λ _. where_reading IsByte ByteFault one_byte_at is_value_type (Malformed BadByte) one_byte_reading))

pub local_runs_reading : IsReading AreLocalRuns (ListedFault IsLocalRun LocalFault) local_runs_at
local_runs_reading = list_reading IsLocalRun LocalFault local_run_at local_run_reading

-- ---- a body that is decoded

as_runs : (place : ℕ) (locals : List (ℕ × ℕ)) (text : List ℕ) → Items IsLocal place locals text → Items IsLocalRun place (map run_of locals) text
as_runs place [] text s = s
as_runs place (x ∷ xs) text s = (s.0, s.1, s.2, (x, s.3, refl), as_runs (place + length s.0) xs s.1 s.4)

declared_runs : (locals : List (ℕ × ℕ)) (front : List ℕ) → AreLocals 0 locals front → AreLocalRuns 0 (map run_of locals) front
declared_runs locals front s =
    (s.0, s.1, s.2, subst (λ (n : ℕ). IsU32 0 n s.0) (sym (length-map locals run_of)) s.3, as_runs (0 + length s.0) locals s.1 s.4)

-- its declarations are read
pub taken_runs : (ops : List Op) (body : List ℕ) → AreTaken ops body → (runs : List LocalRun) × (runs_of body ≡ Ok runs)
taken_runs ops body t =
    let s = t.0 in
    let runs = map run_of s.0 in
    let mid : Cursor = record { position = length s.1; rest = s.2 } in
    let takes : Takes AreLocalRuns runs (start body) mid = record { text = s.1; spelled = declared_runs s.0 s.1 s.4; parts = s.3; moved = omega arith } in
    (runs, rw (local_runs_reading.again (start body) runs mid takes) refl)

-- and what is read is declared
pub read_runs_stand : (body : List ℕ) (runs locals : List LocalRun) → runs_of body ≡ Ok runs → locals ≡ with_locals runs → Declares body locals
read_runs_stand body runs locals e w =
    let b = bind_ok (local_runs_at (start body)) (λ (p : List LocalRun × Cursor). Ok p.0) runs e in
    let t = local_runs_reading.found (start body) b.0.0 b.0.1 b.1 in
    (runs, t.text, b.0.1.rest, t.parts, subst (λ (xs : List LocalRun). AreLocalRuns 0 xs t.text) (ok_is b.0.0 runs b.2) t.spelled, w)

-- so reading them doesn't fail
pub none_fails : (ops : List Op) (body : List ℕ) (e : ReadError) → AreTaken ops body → Fails e (runs_of body) → HasCause (λ d. DecodeFault d body) e
none_fails ops body OutOfMemory t f = tt
none_fails ops body (Malformed why) t f = let r = taken_runs ops body t in let no : Ok r.0 ≡ Err (Malformed why) = sym r.1 ∙ f in cc
none_fails ops body (Unsupported form) t f = let r = taken_runs ops body t in let no : Ok r.0 ≡ Err (Unsupported form) = sym r.1 ∙ f in cc
