-- Passing so many items, as a loop does that keeps none.
use Rattle.std.proofs.Common.{◌≡◌, ℕ, suc, ◌-◌, ◌+◌, ◌≤◌, ◌<◌, List, ◌∷◌, Result, Ok, Err, refl, sym, ◌∙◌, arith}
use Rattle.wl_bytes.specs.Cursor.{Cursor}
use Rattle.wl_bytes.specs.Parse.{◌>>=◌}
use Rattle.wl_bytes.specs.Grammar.{times_at}
use Rattle.wl_bytes.specs.declared.read_error.ReadError.{ReadError}
use Rattle.wl_bytes.specs.declared.read_error.ReadError.TheVariants.{OutOfMemory, Malformed, Unsupported}
use Rattle.wl_bytes.specs.Outcome.{Fails}
use Rattle.wl_bytes.specs.Checks.{any_at}

abbrev Passed : Type 0
Passed = Result (Unit {0} × Cursor) ReadError

abbrev passed : {X : Type 0} → Result (X × Cursor) ReadError → Passed
passed read = read >>= λ p. Ok (tt, p.1)

-- that another one was before them makes no difference
same : {X : Type 0} (x : X) (read : Result (List X × Cursor) ReadError) → passed (read >>= λ q. Ok (x ∷ q.0, q.1)) ≡ passed read
same x (Ok q) = refl
same x (Err e) = refl

-- one more item is passed
pub passes_on : {X : Type 0} (item : Cursor → Result (X × Cursor) ReadError) (count i : ℕ) (c : Cursor) (x : X) (after : Cursor) (total : Passed) → i < count → item c ≡ Ok (x, after)
    → any_at (times_at item (count - i)) c ≡ total → any_at (times_at item (count - (i + 1))) after ≡ total
unfolding times_at
passes_on item count i c x after total lt h so_far =
    let k : count - i ≡ suc (count - (i + 1)) = omega arith in
    let one : any_at (times_at item (count - i)) c ≡ any_at (times_at item (count - (i + 1))) after = rw (k, h) (same x (times_at item (count - (i + 1)) after)) in
    sym one ∙ so_far

stops : {X : Type 0} (item : Cursor → Result (X × Cursor) ReadError) (e : ReadError) (count i : ℕ) (c : Cursor) (total : Passed) → i < count → item c ≡ Err e → any_at (times_at item (count - i)) c ≡ total → total ≡ Err e
unfolding times_at
stops item e count i c total lt h so_far =
    let k : count - i ≡ suc (count - (i + 1)) = omega arith in
    let one : any_at (times_at item (count - i)) c ≡ Err e = rw (k, h) refl in
    sym so_far ∙ one

-- the next item is at fault
pub passing_ends : {X : Type 0} (item : Cursor → Result (X × Cursor) ReadError) (e : ReadError) (count i : ℕ) (c : Cursor) (total : Passed) → i < count → Fails e (item c) → any_at (times_at item (count - i)) c ≡ total → Fails e total
passing_ends item OutOfMemory count i c total lt h so_far = tt
passing_ends item (Malformed why) count i c total lt h so_far = stops item (Malformed why) count i c total lt h so_far
passing_ends item (Unsupported form) count i c total lt h so_far = stops item (Unsupported form) count i c total lt h so_far

-- all items are passed
pub passing_done : {X : Type 0} (item : Cursor → Result (X × Cursor) ReadError) (count i : ℕ) (c : Cursor) (total : Passed) → count ≤ i → any_at (times_at item (count - i)) c ≡ total → total ≡ Ok (tt, c)
unfolding times_at
passing_done item count i c total le so_far =
    let k : count - i ≡ 0 = omega arith in
    let one : any_at (times_at item (count - i)) c ≡ Ok (tt, c) = rw k refl in
    sym so_far ∙ one
