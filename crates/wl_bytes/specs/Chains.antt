-- Items each under what came before it: to the end of the bytes, or so many of them.
use Rattle.std.specs.Prelude.{◌≡◌, ◌≢◌, ◌⊎◌, ℕ, zero, suc, ◌+◌, ◌<◌, Bool, not, ◌&&◌, ◌||◌, List, [], ◌∷◌, ◌++◌, length, Result, Ok}
use Rattle.wl_bytes.specs.Cursor.{Cursor}
use Rattle.wl_bytes.specs.Parse.{Takes, ◌>>=◌}
use Rattle.wl_bytes.specs.Leb.{IsU32}
use Rattle.wl_bytes.specs.Grammar.{then_at, map_at}
use Rattle.wl_bytes.specs.declared.read_error.ReadError.{ReadError}
use Rattle.wl_bytes.specs.Lists.{NumberFault, number_at}
use Rattle.wl_bytes.specs.Checks.{Where, WhereFault, where_at, unless}

-- ---- items in turn

-- what spells an item under the state that those before it leave, and the state after it
pub record Turns (S X : Type 0) : Type 1 where
  pub item : S → ℕ → X → List ℕ → Type 0
  pub next : S → X → S

-- the state after some items
abbrev pub after : {S X : Type 0} → (S → X → S) → S → List X → S
after next s [] = s
after next s (x ∷ xs) = after next (next s x) xs

-- items one after the other, each spelled under the state that the ones before it leave
abbrev pub Chain : {S X : Type 0} → Turns S X → S → ℕ → List X → List ℕ → Type 0
Chain turns s place [] text = text ≡ []
Chain turns s place (x ∷ xs) text = (front : List ℕ) × (back : List ℕ) × (text ≡ front ++ back)
    × turns.item s place x front × Chain turns (turns.next s x) (place + length front) xs back

-- some items stand there, and what comes after them is at fault
abbrev pub ChainFault : {S X E : Type 0} → Turns S X → (S → E → Cursor → Type 0) → S → E → Cursor
    → Type 0
ChainFault {S} {X} turns wrong s e from =
    (xs : List X) × (mid : Cursor) × Takes (Chain turns s) xs from mid × (mid.rest ≢ [])
    × wrong (after turns.next s xs) e mid

-- ---- so many of them

-- reads so many of them, or gives the first fault
unfoldable pub times_after_at : {S X E : Type 0} → (S → Cursor → Result (X × Cursor) E)
    → (S → X → S) → ℕ → S → Cursor → Result (List X × Cursor) E
times_after_at item next zero s c = Ok ([], c)
times_after_at item next (suc n) s c =
    item s c >>= λ p. times_after_at item next n (next s p.0) p.1 >>= λ q. Ok (p.0 ∷ q.0, q.1)

-- the number of items, and then they, each under what came before it
abbrev pub ListedAfter : {S X : Type 0} → Turns S X → S → ℕ → List X → List ℕ → Type 0
ListedAfter turns s place xs text = (head : List ℕ) × (body : List ℕ) × (text ≡ head ++ body)
    × IsU32 place (length xs) head × Chain turns s (place + length head) xs body

-- the count is at fault, or after fewer items than it says there is one at fault
abbrev pub ListedAfterFault : {S X : Type 0} → Turns S X → (S → ReadError → Cursor → Type 0) → S
    → ReadError → Cursor → Type 0
ListedAfterFault {S} {X} turns wrong s e from =
    NumberFault e from
    ⊎ ((n : ℕ) × (behind : Cursor) × Takes IsU32 n from behind × ((xs : List X) × (mid : Cursor)
    × (length xs < n) × Takes (Chain turns s) xs behind mid × wrong (after turns.next s xs) e mid))

-- the next list
abbrev pub list_after_at : {S X : Type 0} → (S → Cursor → Result (X × Cursor) ReadError)
    → (S → X → S) → S → Cursor → Result (List X × Cursor) ReadError
list_after_at item next s c =
    map_at (λ p. p.1) (then_at number_at (λ n. times_after_at item next n s)) c

-- ---- a list with at most one item of some sort

-- which items are of the sort, whether there is one already, and what is reported of one too many
pub record Once (X : Type 0) : Type 0 where
  pub sort : X → Bool
  pub seen : Bool
  pub many : ReadError

-- where there is one already, no other may come
abbrev pub may_come : {X : Type 0} → (X → Bool) → Bool → X → Bool
may_come sort seen x = not (seen && sort x)

-- whether there is one then
abbrev pub seen_then : {X : Type 0} → (X → Bool) → Bool → X → Bool
seen_then sort seen x = seen || sort x

-- items, each of which may come after those before it
abbrev pub once_in_turn : {X : Type 0} → (ℕ → X → List ℕ → Type 0) → Once X → Turns Bool X
once_in_turn item once =
    record { item = λ seen. Where item (may_come once.sort seen); next = seen_then once.sort }

-- a list with at most one of the sort, and none where there is one already
abbrev pub ListedOnce : {X : Type 0} → (ℕ → X → List ℕ → Type 0) → Once X → ℕ → List X → List ℕ
    → Type 0
ListedOnce item once = ListedAfter (once_in_turn item once) once.seen

-- the count is at fault, or an item, or it is one too many
abbrev pub ListedOnceFault : {X : Type 0} → (ℕ → X → List ℕ → Type 0)
    → (ReadError → Cursor → Type 0) → Once X → ReadError → Cursor → Type 0
ListedOnceFault item wrong once =
    ListedAfterFault (once_in_turn item once)
    (λ seen. WhereFault item wrong (unless (may_come once.sort seen) once.many)) once.seen

-- the next item, if it isn't one too many
abbrev pub once_at : {X : Type 0} → (Cursor → Result (X × Cursor) ReadError) → (X → Bool)
    → ReadError → Bool → Cursor → Result (X × Cursor) ReadError
once_at item sort many seen c = where_at item (may_come sort seen) many c

-- the next list
abbrev pub list_once_at : {X : Type 0} → (Cursor → Result (X × Cursor) ReadError) → Once X → Cursor
    → Result (List X × Cursor) ReadError
list_once_at item once c =
    list_after_at (once_at item once.sort once.many) (seen_then once.sort) once.seen c
