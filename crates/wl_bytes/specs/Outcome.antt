-- What a call that reads has answered.
use Rattle.std.specs.Prelude.{◌≡◌, ◌⊎◌, ℕ, List, Result, Ok, Err, IfOk, IfErr}
use Rattle.wl_bytes.specs.Cursor.{Cursor}
use Rattle.wl_bytes.specs.declared.read_error.ReadError.{ReadError}
use Rattle.wl_bytes.specs.declared.read_error.ReadError.TheVariants.{OutOfMemory, Malformed, Unsupported}

-- reading fails so, unless memory ran out
abbrev pub Fails : {Y : Type 0} → ReadError → Result Y ReadError → Type 0
Fails OutOfMemory read = Unit {0}
Fails (Malformed why) read = read ≡ Err (Malformed why)
Fails (Unsupported form) read = read ≡ Err (Unsupported form)

-- What was answered, seen by view, is what reading gives, unless memory ran out.
abbrev pub Gives : {X Y : Type 0} → (X → Y) → Result X ReadError → Result Y ReadError → Type 0
Gives view (Ok x) read = read ≡ Ok (view x)
Gives view (Err e) read = Fails e read

-- the same, with the place where the reader stands then
abbrev pub Yields : {X Y : Type 0} → (X → Y) → Result X ReadError → Cursor
    → Result (Y × Cursor) ReadError → Type 0
Yields view (Ok x) new read = read ≡ Ok (view x, new)
Yields view (Err e) new read = Fails e read

-- an error has its cause, unless memory ran out
abbrev pub HasCause : (ReadError → Type 0) → ReadError → Type 0
HasCause cause OutOfMemory = Unit {0}
HasCause cause (Malformed why) = cause (Malformed why)
HasCause cause (Unsupported form) = cause (Unsupported form)

-- What a call on a whole payload has answered: the items exactly where the payload spells them, and
-- each fault exactly where it is the case, unless memory ran out.
pub record ReadsWhole {X Y : Type 0} (view : X → Y) (spells : Y → List ℕ → Type 0)
    (faults : ReadError → List ℕ → Type 0) (payload : List ℕ) (result : Result X ReadError)
    : Type 0 where
  pub sound : IfOk result (λ x. spells (view x) payload)
  pub only : (y : Y) → spells y payload → Gives view result (Ok y)
  pub fault : IfErr result (HasCause (λ e. faults e payload))
  pub why : (e : ReadError) → faults e payload → Gives view result (Err e)

-- Bytes spell one value or have one fault: always one of the two, and never both.
pub record AreAlternatives {Y : Type 0} (spells : Y → List ℕ → Type 0)
    (faults : ReadError → List ℕ → Type 0) : Type 0 where
  pub some : (payload : List ℕ)
      → ((y : Y) × spells y payload) ⊎ ((e : ReadError) × faults e payload)
  pub one_value : (payload : List ℕ) (x y : Y) → spells x payload → spells y payload → x ≡ y
  pub no_fault : (payload : List ℕ) (y : Y) (e : ReadError) → spells y payload → ¬ faults e payload
  pub one_fault : (payload : List ℕ) (e d : ReadError) → faults e payload → faults d payload → e ≡ d
