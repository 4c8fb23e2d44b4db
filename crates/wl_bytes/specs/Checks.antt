-- Items under a condition, items seen otherwise, and items that give their place or nothing.
use Rattle.std.specs.Prelude.{◌≡◌, ◌⊎◌, ℕ, ◌-◌, Bool, true, false, if◌then◌else◌, List, [], Option, Some, None, Result, Ok, Err}
use Rattle.wl_bytes.specs.Cursor.{Cursor}
use Rattle.wl_bytes.specs.Parse.{Takes, ◌>>=◌}
use Rattle.wl_bytes.specs.Grammar.{map_at}

-- ---- an item that passes a test

-- the text spells x, and x passes
abbrev pub Where : {X : Type 0} → (ℕ → X → List ℕ → Type 0) → (X → Bool) → ℕ → X → List ℕ → Type 0
Where spells test place x text = spells place x text × (test x ≡ true)

-- a test of what was read: what passes, and what is reported of the rest
pub record Test (X E : Type 0) : Type 0 where
  pub passes : X → Bool
  pub failed : E

-- what passes, and the error that is reported unless it does
abbrev pub unless : {X E : Type 0} → (X → Bool) → E → Test X E
unless passes failed = record { passes = passes; failed = failed }

-- the item is at fault, or it stands there and fails the test
abbrev pub WhereFault : {X E : Type 0} → (ℕ → X → List ℕ → Type 0) → (E → Cursor → Type 0)
    → Test X E → E → Cursor → Type 0
WhereFault {X} spells wrong test e from =
    wrong e from ⊎ ((x : X) × (mid : Cursor) × Takes spells x from mid × (test.passes x ≡ false)
    × (e ≡ test.failed))

-- the next item, if it passes
abbrev pub where_at : {X E : Type 0} → (Cursor → Result (X × Cursor) E) → (X → Bool) → E → Cursor
    → Result (X × Cursor) E
where_at read test failed c = read c >>= λ p. if test p.0 then Ok p else Err failed

-- ---- an item that stands only where it is said to

-- nothing, or the item
abbrev pub When : {X : Type 0} → (ℕ → X → List ℕ → Type 0) → Bool → ℕ → Option X → List ℕ → Type 0
When spells false place x text = (x ≡ None) × (text ≡ [])
When spells true place None text = ⊥
When spells true place (Some x) text = spells place x text

-- the item is to stand there, and is at fault
abbrev pub WhenFault : {E : Type 0} → (E → Cursor → Type 0) → Bool → E → Cursor → Type 0
WhenFault wrong false e from = ⊥
WhenFault wrong true e from = wrong e from

-- nothing, or the next item
abbrev pub when_at : {X E : Type 0} → (Cursor → Result (X × Cursor) E) → Bool → Cursor
    → Result (Option X × Cursor) E
when_at read false c = Ok (None, c)
when_at read true c = map_at (λ x. Some x) read c

-- ---- an item seen otherwise

-- the text spells something that f sees as y; map_at reads it
abbrev pub Seen : {X Y : Type 0} → (ℕ → X → List ℕ → Type 0) → (X → Y) → ℕ → Y → List ℕ → Type 0
Seen {X} spells f place y text = (x : X) × spells place x text × (f x ≡ y)

-- ---- an item that says where it stands, and how many bytes it has

-- the next item, seen by f with its place and its length
abbrev pub measured_at : {X Y E : Type 0} → (ℕ → ℕ → X → Y) → (Cursor → Result (X × Cursor) E)
    → Cursor → Result (Y × Cursor) E
measured_at f read c = read c >>= λ p. Ok (f c.position (p.1.position - c.position) p.0, p.1)

-- ---- an item of which nothing is given

-- the text spells something
abbrev pub Any : {X : Type 0} → (ℕ → X → List ℕ → Type 0) → ℕ → Unit {0} → List ℕ → Type 0
Any {X} spells place u text = (x : X) × spells place x text

-- whatever comes next
abbrev pub any_at : {X E : Type 0} → (Cursor → Result (X × Cursor) E) → Cursor
    → Result (Unit {0} × Cursor) E
any_at read c = map_at (λ _. tt) read c

-- ---- nothing

-- no bytes
abbrev pub IsNothing : ℕ → Unit {0} → List ℕ → Type 0
IsNothing place u text = text ≡ []

-- nothing can be wrong
abbrev pub NoFault : {E : Type 0} → E → Cursor → Type 0
NoFault e from = ⊥

-- takes nothing
abbrev pub nothing_at : {E : Type 0} → Cursor → Result (Unit {0} × Cursor) E
nothing_at c = Ok (tt, c)
