-- Items one after the other, up to what ends them.
use Rattle.std.specs.Prelude.{◌≡◌, ℕ, zero, suc, ◌+◌, List, [], ◌∷◌, ◌++◌, length, Option, Some, None, Result, Ok, Err}
use Rattle.wl_bytes.specs.Cursor.{Cursor}
use Rattle.wl_bytes.specs.Parse.{Takes, ◌>>=◌}
use Rattle.wl_bytes.specs.Grammar.{Items}

-- a step is an item, Some of it, or the end, None; this is a step that is an item
abbrev pub ItemOf : {X : Type 0} → (ℕ → Option X → List ℕ → Type 0) → ℕ → X → List ℕ → Type 0
ItemOf step place x text = step place (Some x) text

-- the items, and then the end
abbrev pub Ended : {X : Type 0} → (ℕ → Option X → List ℕ → Type 0) → ℕ → List X → List ℕ → Type 0
Ended step place xs text = (front : List ℕ) × (back : List ℕ) × (text ≡ front ++ back)
    × Items (ItemOf step) place xs front × step (place + length front) None back

-- some items stand there, and after them neither one more nor the end
abbrev pub EndedFault : {X E : Type 0} → (ℕ → Option X → List ℕ → Type 0) → (E → Cursor → Type 0)
    → E → Cursor → Type 0
EndedFault {X} step wrong e from =
    (xs : List X) × (mid : Cursor) × Takes (Items (ItemOf step)) xs from mid × wrong e mid

-- what is read by a step and what may come after it
abbrev pub step_and : {X E : Type 0} → Option X → Cursor → Result (List X × Cursor) E
    → Result (List X × Cursor) E
step_and None c more = Ok ([], c)
step_and (Some x) c more = more >>= λ q. Ok (x ∷ q.0, q.1)

-- reads at most n steps
unfoldable pub steps_at : {X E : Type 0} → (Cursor → Result (Option X × Cursor) E) → E → ℕ → Cursor
    → Result (List X × Cursor) E
steps_at step dry zero c = Err dry
steps_at step dry (suc n) c = step c >>= λ p. step_and p.0 p.1 (steps_at step dry n p.1)

-- reads to the end, where each item takes a byte at least
abbrev pub ended_at : {X E : Type 0} → (Cursor → Result (Option X × Cursor) E) → E → Cursor
    → Result (List X × Cursor) E
ended_at step dry c = steps_at step dry (suc (length c.rest)) c
