-- What is decided on what was just read, before anything more is.
use Rattle.std.specs.Prelude.{◌≡◌, ℕ, List, [], Result, Ok, Err}
use Rattle.wl_bytes.specs.Cursor.{Cursor}
use Rattle.wl_bytes.specs.Parse.{◌>>=◌}
use Rattle.wl_bytes.specs.declared.read_error.ReadError.{ReadError}

-- no byte, where the verdict is this value
abbrev pub Judged : {X : Type 0} → Result X ReadError → ℕ → X → List ℕ → Type 0
Judged verdict place x text = (text ≡ []) × (verdict ≡ Ok x)

-- the verdict is this error
abbrev pub JudgedFault : {X : Type 0} → Result X ReadError → ReadError → Cursor → Type 0
JudgedFault verdict e from = verdict ≡ Err e

-- the verdict as a reading of no byte
abbrev pub judged_at : {X : Type 0} → Result X ReadError → Cursor → Result (X × Cursor) ReadError
judged_at verdict c = verdict >>= λ x. Ok (x, c)

-- no more bytes, where those read before spell x
abbrev pub Inside : {X : Type 0} → (X → List ℕ → Type 0) → List ℕ → ℕ → X → List ℕ → Type 0
Inside spells payload place x text = (text ≡ []) × spells x payload

-- those read before are at fault
abbrev pub InsideFault : (ReadError → List ℕ → Type 0) → List ℕ → ReadError → Cursor → Type 0
InsideFault faults payload e from = faults e payload

-- ---- places

-- how many bytes lie before a place, and none of them
abbrev pub IsHere : ℕ → ℕ → List ℕ → Type 0
IsHere place n text = (text ≡ []) × (n ≡ place)

-- how many bytes lie before
abbrev pub here_at : {E : Type 0} → Cursor → Result (ℕ × Cursor) E
here_at c = Ok (c.position, c)
